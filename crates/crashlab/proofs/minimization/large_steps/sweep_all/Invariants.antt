use Rattle.std.proofs.Common.{◌≡◌}
use Rattle.crashlab.proofs.minimization.large_steps.sweep_all.Given as goal

abbrev pub invariant-loop-size : goal.invariant-loop-size
invariant-loop-size g l = g.O.Oracle.criterion_of l.oracle ≡ g.O.Oracle.criterion_of l.initial.oracle

abbrev pub decreases-loop-size : goal.decreases-loop-size
decreases-loop-size g l = l.size
