use Rattle.std.proofs.Common.{◌≡◌, ℕ, ◌<◌}
use Rattle.crashlab.specs.minimization.Least.{IsNeeded}
use Rattle.crashlab.proofs.minimization.least.find_smaller.Given as goal

abbrev pub invariant-loop-at : goal.invariant-loop-at
invariant-loop-at g l = record {
  needed : (i : ℕ) → i < l.at → IsNeeded (g.O.Oracle.is_wrong (g.O.Oracle.criterion_of l.initial.oracle)) l.schedule i;
  same : g.O.Oracle.criterion_of l.oracle ≡ g.O.Oracle.criterion_of l.initial.oracle;
}
