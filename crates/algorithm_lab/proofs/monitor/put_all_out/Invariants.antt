use Rattle.std.proofs.Common.{◌≡◌, ◌++◌, drop, replicate}
use Rattle.rmecore.specs.declared.phase.Phase.TheVariants.{Out}
use Rattle.algorithm_lab.proofs.monitor.put_all_out.Given as goal

abbrev pub invariant-loop-p : goal.invariant-loop-p
invariant-loop-p l = l.phases ≡ replicate l.p Out ++ drop l.p l.initial.phases
