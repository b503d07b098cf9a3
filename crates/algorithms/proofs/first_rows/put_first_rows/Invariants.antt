use Rattle.std.proofs.Common.{◌≡◌, ◌++◌, drop, slice_get}
use Rattle.algorithms.specs.FirstWords.{row_or_zeros, values_to}
use Rattle.algorithms.proofs.first_rows.put_first_rows.Given as goal

abbrev pub invariant-loop-place : goal.invariant-loop-place
invariant-loop-place l = l.words ≡ values_to (λ k. row_or_zeros (slice_get l.rows k)) l.place ++ drop l.place l.initial.words
