use Rattle.std.proofs.Common.{◌≡◌, slice_get}
use Rattle.algorithms.specs.FirstWords.{all_below, has_row_size}
use Rattle.algorithms.proofs.first_words.has_row_sizes.Given as goal

abbrev pub invariant-loop-place : goal.invariant-loop-place
invariant-loop-place l = l.fit ≡ all_below (λ k. has_row_size l.procs l.limit (slice_get l.algorithm.rows.items k)) l.place
