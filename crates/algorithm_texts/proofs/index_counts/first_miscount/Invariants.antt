use Rattle.std.proofs.Common.{◌≡◌, length, map, None}
use Rattle.algorithm_texts.specs.IndexCounts.{first_miscount}
use Rattle.algorithm_texts.proofs.index_counts.first_miscount.Given as goal

-- the words so far have their indexes
abbrev pub invariant-loop-place : goal.invariant-loop-place
invariant-loop-place l =
    first_miscount (map (λ line. line.now) l.lines) l.code None l.places ≡ first_miscount (map (λ line. line.now) l.lines) l.code l.before l.rest

abbrev pub decreases-loop-place : goal.decreases-loop-place
decreases-loop-place l = length l.rest
