use Rattle.std.proofs.Common.{◌≡◌, ◌++◌, drop, replicate}
use Rattle.algorithms.proofs.first_rows.zero_all.Given as goal

abbrev pub invariant-loop-row : goal.invariant-loop-row
invariant-loop-row l = l.rows ≡ replicate l.row (replicate 64 0) ++ drop l.row l.initial.rows
