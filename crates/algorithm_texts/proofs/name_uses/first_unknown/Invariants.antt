use Rattle.std.proofs.Common.{◌≡◌, length, map, None}
use Rattle.algorithm_texts.specs.NameUses.{first_unknown}
use Rattle.algorithm_texts.proofs.name_uses.first_unknown.Given as goal

-- the names so far are known
abbrev pub invariant-loop-place : goal.invariant-loop-place
invariant-loop-place l =
    first_unknown (map (λ line. line.now) l.lines) l.call l.code None l.places ≡ first_unknown (map (λ line. line.now) l.lines) l.call l.code l.before l.rest

abbrev pub decreases-loop-place : goal.decreases-loop-place
decreases-loop-place l = length l.rest
