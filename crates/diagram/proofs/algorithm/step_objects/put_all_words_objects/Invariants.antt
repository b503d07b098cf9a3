use Rattle.std.proofs.Common.{◌≡◌, ◌++◌, drop}
use Rattle.diagram.specs.AlgorithmSteps.{words_objects}
use Rattle.diagram.proofs.algorithm.step_objects.put_all_words_objects.Given as goal

-- what is written so far, and the declarations that are left
abbrev pub invariant-loop-at : goal.invariant-loop-at
invariant-loop-at l = l.out.items ++ words_objects l.procs l.limit l.rows l.at (drop l.at l.declarations) ≡ l.fn.out.items ++ words_objects l.procs l.limit l.rows 0 l.declarations
