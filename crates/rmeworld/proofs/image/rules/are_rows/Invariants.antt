use Rattle.std.proofs.Common.{ℕ, ◌<◌}
use Rattle.rmeworld.proofs.Common.{IsRow, own_at}
use Rattle.rmeworld.proofs.image.rules.are_rows.Given as goal

abbrev pub invariant-loop-own : goal.invariant-loop-own
invariant-loop-own l = (p : ℕ) → p < l.own-index → IsRow l.limit (own_at l.lock p)
