use Rattle.std.proofs.Common.{◌≡◌}
use Rattle.crashlab.specs.minimization.Least.{IsLike, size}
use Rattle.crashlab.proofs.minimization.least.make_least.Given as goal

abbrev pub invariant-loop-now : goal.invariant-loop-now
invariant-loop-now g l = record {
  like : IsLike (g.O.Oracle.is_wrong (g.O.Oracle.criterion_of l.initial.oracle)) l.fn.schedule l.now;
  same : g.O.Oracle.criterion_of l.oracle ≡ g.O.Oracle.criterion_of l.initial.oracle;
}

abbrev pub decreases-loop-now : goal.decreases-loop-now
decreases-loop-now g l = size l.now
