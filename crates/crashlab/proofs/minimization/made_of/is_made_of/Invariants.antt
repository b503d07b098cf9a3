use Rattle.std.proofs.Common.{ℕ, ◌<◌}
use Rattle.crashlab.specs.minimization.MadeOf.{IsSubsequence, moves_of}
use Rattle.crashlab.proofs.minimization.made_of.is_made_of.Given as goal

-- it holds of the processes so far
abbrev pub invariant-loop-p : goal.invariant-loop-p
invariant-loop-p l = (q : ℕ) → q < l.p → IsSubsequence (moves_of q l.now.lines) (moves_of q l.before.lines)
