use Rattle.std.proofs.Common.{◌≡◌, ◌++◌, drop, replicate}
use Rattle.algorithm_lab.proofs.step_counts.put_no_steps.Given as goal

abbrev pub invariant-loop-p : goal.invariant-loop-p
invariant-loop-p l = l.steps ≡ replicate l.p 0 ++ drop l.p l.initial.steps
