use Rattle.std.proofs.Common.{◌≡◌, slice_get}
use Rattle.algorithms.specs.FirstWords.{all_below, has_row}
use Rattle.algorithms.proofs.first_words.has_first_words.Given as goal

abbrev pub invariant-loop-place : goal.invariant-loop-place
invariant-loop-place l = l.fit ≡ all_below (λ k. has_row l.procs l.limit (slice_get l.algorithm.declarations.items k) (slice_get l.values.starts.items k)) l.place
