use Rattle.std.proofs.Common.{ℕ, ◌<◌}
use Rattle.rmeworld.proofs.Common.{own_at}
use Rattle.rmeworld.proofs.image.rules.find_in.Given as goal

abbrev pub invariant-loop-p : goal.invariant-loop-p
invariant-loop-p l = (q : ℕ) → q < l.p → 0 < (own_at l.lock q).number → 0 < (own_at l.lock q).inside → ⊥
