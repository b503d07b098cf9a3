use Rattle.std.proofs.Common.{◌≡◌, replicate}
use Rattle.algorithms.proofs.first_rows.all_zero.Given as goal

abbrev pub invariant-loop-row : goal.invariant-loop-row
invariant-loop-row l = l.rows.items ≡ replicate l.row (replicate 64 0)
