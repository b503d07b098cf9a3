use Rattle.std.proofs.Common.{◌≡◌, slice_get}
use Rattle.algorithms.specs.FirstWords.{values_to, first_row}
use Rattle.algorithms.proofs.first_words.rows_said.Given as goal

abbrev pub invariant-loop-place : goal.invariant-loop-place
invariant-loop-place l =
    l.rows.items ≡ values_to (λ k. first_row l.procs l.limit (slice_get l.algorithm.declarations.items k) (slice_get l.values.starts.items k)) l.place
