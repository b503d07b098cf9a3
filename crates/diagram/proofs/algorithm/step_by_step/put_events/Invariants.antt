use Rattle.std.proofs.Common.{◌≡◌, ◌++◌, take}
use Rattle.diagram.specs.AlgorithmSimulations.{kept_lines}
use Rattle.diagram.proofs.algorithm.step_by_step.put_events.Given as goal

abbrev pub invariant-loop-event : goal.invariant-loop-event
invariant-loop-event l = l.out.items ≡ l.fn.out.items ++ kept_lines l.algorithm (take l.event-index l.events)
