use Rattle.std.proofs.Common.{◌≡◌, ◌++◌, take}
use Rattle.diagram.specs.AlgorithmSimulations.{marked_lines}
use Rattle.diagram.proofs.algorithm.step_by_step.put_marked_events.Given as goal

abbrev pub invariant-loop-event : goal.invariant-loop-event
invariant-loop-event l = l.out.items ≡ l.fn.out.items ++ marked_lines l.algorithm (take l.event-index l.marked)
