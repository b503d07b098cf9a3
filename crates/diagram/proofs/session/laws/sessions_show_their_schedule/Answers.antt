use Rattle.diagram.proofs.Undone.{shows_schedule}
use Rattle.diagram.proofs.session.laws.sessions_show_their_schedule.Goals as goal

pub returns : goal.returns
returns g c = shows_schedule g.S.Simulation.semantics g.met.S.Simulation.begins_after g.met.S.Simulation.begins_again
