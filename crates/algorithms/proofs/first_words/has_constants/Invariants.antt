use Rattle.std.proofs.Common.{◌≡◌, slice_get}
use Rattle.algorithms.specs.FirstWords.{all_below, has_constant}
use Rattle.algorithms.proofs.first_words.has_constants.Given as goal

abbrev pub invariant-loop-place : goal.invariant-loop-place
invariant-loop-place l = l.fit ≡ all_below (λ k. has_constant l.procs l.limit (slice_get l.algorithm.constants.items k)) l.place
