use Rattle.std.proofs.Common.{◌≡◌, length, map, None}
use Rattle.algorithm_texts.specs.NameUses.{second_access}
use Rattle.algorithm_texts.proofs.name_uses.second_access.Given as goal

-- the tokens so far are at no fault
abbrev pub invariant-loop-place : goal.invariant-loop-place
invariant-loop-place l =
    second_access (map (λ line. line.now) l.lines) l.code None None l.places ≡ second_access (map (λ line. line.now) l.lines) l.code l.access l.before l.rest

abbrev pub decreases-loop-place : goal.decreases-loop-place
decreases-loop-place l = length l.rest
