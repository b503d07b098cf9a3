use Rattle.std.proofs.Common.{◌≡◌, drop}
use Rattle.diagram.proofs.Common.{events_in}
use Rattle.diagram.proofs.step_by_step.show_any.Given as goal

abbrev pub invariant-loop-row : goal.invariant-loop-row
invariant-loop-row l = events_in (drop l.row-index l.rows) ≡ events_in l.rows
