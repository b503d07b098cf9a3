use Rattle.std.proofs.Common.{◌≡◌}
use Rattle.algorithm_lab.specs.Claims.{any_below, holds_beside}
use Rattle.algorithm_lab.proofs.claims.holds_with.Given as goal

abbrev pub invariant-loop-q : goal.invariant-loop-q
invariant-loop-q l = l.holds ≡ any_below (holds_beside l.world l.phases l.claim l.p) l.q
