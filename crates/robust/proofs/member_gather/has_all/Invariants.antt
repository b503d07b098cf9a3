use Rattle.std.proofs.Common.{◌≡◌, ℕ, ◌<◌, true}
use Rattle.robust.proofs.Common.{has_member}
use Rattle.robust.proofs.member_gather.has_all.Given as goal

abbrev pub invariant-loop-p : goal.invariant-loop-p
invariant-loop-p l = (q : ℕ) → q < l.p → has_member q l.members ≡ true
