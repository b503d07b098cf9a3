use Rattle.std.proofs.Common.{◌≡◌, ◌≢◌, ℕ, ◌<◌, true, length}
use Rattle.rmeworld.proofs.Common.{is_before, own_at}
use Rattle.rmeworld.proofs.image.rules.is_first.Given as goal

abbrev pub invariant-loop-p : goal.invariant-loop-p
invariant-loop-p l = (p : ℕ) → p < l.p → (q : ℕ) → q < length l.lock → q ≢ p → 0 < (own_at l.lock p).number → 0 < (own_at l.lock p).inside → 0 < (own_at l.lock q).number
    → is_before (own_at l.lock p).number p (own_at l.lock q).number q ≡ true
