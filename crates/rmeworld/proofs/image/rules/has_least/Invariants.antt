use Rattle.std.proofs.Common.{◌≡◌, ◌≢◌, ℕ, ◌<◌, true}
use Rattle.rmeworld.proofs.Common.{is_before, own_at}
use Rattle.rmeworld.proofs.image.rules.has_least.Given as goal

abbrev pub invariant-loop-q : goal.invariant-loop-q
invariant-loop-q l = (q : ℕ) → q < l.q → q ≢ l.p → 0 < (own_at l.lock q).number → is_before (own_at l.lock l.p).number l.p (own_at l.lock q).number q ≡ true
