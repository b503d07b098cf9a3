use Rattle.std.proofs.Common.{◌≡◌, ℕ, ◌<◌, ◌==◌, false}
use Rattle.judge.proofs.Common.{bit_at}
use Rattle.judge.proofs.rows.least_in.Given as goal

abbrev pub invariant-loop-q : goal.invariant-loop-q
invariant-loop-q l = (k : ℕ) → k < l.q → (bit_at l.row k == 1) ≡ false
