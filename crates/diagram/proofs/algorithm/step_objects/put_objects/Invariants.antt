use Rattle.std.proofs.Common.{◌≡◌, ◌++◌, drop}
use Rattle.diagram.specs.AlgorithmSteps.{marked_objects}
use Rattle.diagram.proofs.algorithm.step_objects.put_objects.Given as goal

-- what is written so far, and the events that are left
abbrev pub invariant-loop-at : goal.invariant-loop-at
invariant-loop-at l = l.out.items ++ marked_objects l.algorithm l.at (drop l.at l.marked) ≡ l.fn.out.items ++ marked_objects l.algorithm 0 l.marked
