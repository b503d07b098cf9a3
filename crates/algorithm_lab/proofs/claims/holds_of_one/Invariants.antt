use Rattle.std.proofs.Common.{◌≡◌, Some, None}
use Rattle.algorithm_lab.specs.Claims.{any_below, holds_of}
use Rattle.algorithm_lab.proofs.claims.holds_of_one.Given as goal

abbrev pub invariant-loop-p : goal.invariant-loop-p
invariant-loop-p l = l.holds ≡ any_below (λ p. holds_of l.world l.phases l.claim (Some p) None) l.p
