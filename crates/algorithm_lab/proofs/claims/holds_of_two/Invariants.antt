use Rattle.std.proofs.Common.{◌≡◌}
use Rattle.algorithm_lab.specs.Claims.{any_below, holds_beside}
use Rattle.algorithm_lab.proofs.claims.holds_of_two.Given as goal

abbrev pub invariant-loop-p : goal.invariant-loop-p
invariant-loop-p l = l.holds ≡ any_below (λ p. any_below (holds_beside l.world l.phases l.claim p) l.world.procs) l.p
