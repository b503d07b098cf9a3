use Rattle.std.proofs.Common.{ℕ, ◌<◌}
use Rattle.redomail.proofs.Common.{IsNext}
use Rattle.redomail.proofs.contents.find_next.Given as goal

abbrev pub invariant-loop-q : goal.invariant-loop-q
invariant-loop-q l = (q : ℕ) → q < l.q → IsNext l.layout l.words q → ⊥
