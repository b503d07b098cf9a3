use Rattle.std.proofs.Common.{◌≡◌}
use Rattle.crashlab.proofs.minimization.large_steps.lower_all.Given as goal

abbrev pub invariant-loop-by : goal.invariant-loop-by
invariant-loop-by g l = g.O.Oracle.criterion_of l.oracle ≡ g.O.Oracle.criterion_of l.initial.oracle

abbrev pub decreases-loop-by : goal.decreases-loop-by
decreases-loop-by g l = l.by
