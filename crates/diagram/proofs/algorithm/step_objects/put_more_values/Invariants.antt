use Rattle.std.proofs.Common.{◌≡◌, ◌++◌, drop}
use Rattle.diagram.specs.AlgorithmSteps.{more_values}
use Rattle.diagram.proofs.algorithm.step_objects.put_more_values.Given as goal

abbrev pub invariant-loop-value : goal.invariant-loop-value
invariant-loop-value l = l.out.items ++ more_values (drop l.value-index l.values) ≡ l.fn.out.items ++ more_values l.values
