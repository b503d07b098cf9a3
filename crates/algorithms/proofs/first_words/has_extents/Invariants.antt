use Rattle.std.proofs.Common.{◌≡◌, slice_get}
use Rattle.algorithms.specs.FirstWords.{all_below, has_extent}
use Rattle.algorithms.proofs.first_words.has_extents.Given as goal

abbrev pub invariant-loop-place : goal.invariant-loop-place
invariant-loop-place l = l.fit ≡ all_below (λ k. has_extent l.procs l.limit (slice_get l.algorithm.declarations.items k)) l.place
