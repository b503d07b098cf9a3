use Rattle.std.proofs.Common.{◌≡◌, slice_get}
use Rattle.algorithms.specs.FirstWords.{row_or_zeros, values_to}
use Rattle.algorithms.proofs.first_rows.rows_copied.Given as goal

abbrev pub invariant-loop-place : goal.invariant-loop-place
invariant-loop-place l = l.copy.items ≡ values_to (λ k. row_or_zeros (slice_get l.rows k)) l.place
