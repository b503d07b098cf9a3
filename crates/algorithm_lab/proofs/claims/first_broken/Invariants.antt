use Rattle.std.proofs.Common.{◌≡◌, drop}
use Rattle.algorithm_lab.specs.Claims.{first_broken as first_in}
use Rattle.algorithm_lab.proofs.claims.first_broken.Given as goal

-- none of the claims so far is broken
abbrev pub invariant-loop-claim : goal.invariant-loop-claim
invariant-loop-claim l = first_in l.world l.phases l.claims ≡ first_in l.world l.phases (drop l.claim-index l.claims)
