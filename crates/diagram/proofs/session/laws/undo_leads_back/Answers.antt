use Rattle.diagram.proofs.Undone.{redo_undone, undo_played}
use Rattle.diagram.proofs.session.laws.undo_leads_back.Goals as goal

pub returns-clause-undo : goal.returns-clause-undo
returns-clause-undo g c = undo_played g.S.Simulation.semantics g.met.S.Simulation.begins_after g.met.S.Simulation.begins_again

pub returns-clause-redo : goal.returns-clause-redo
returns-clause-redo g c = redo_undone g.S.Simulation.semantics g.met.S.Simulation.begins_after g.met.S.Simulation.begins_again
