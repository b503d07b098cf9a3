use Rattle.std.proofs.Common.{List, ◌++◌, take}
use Rattle.schedule.specs.declared.lines.line.Line.{Line}
use Rattle.crashlab.specs.minimization.MadeOf.{IsSubsequence, moves_left, moves_of}
use Rattle.crashlab.proofs.minimization.made_of.are_moves_of.Given as goal

-- the moves of the lines so far, and then moves that are left, are among the moves of the lines before
abbrev pub invariant-loop-line : goal.invariant-loop-line
invariant-loop-line l = (xs : List Line) → IsSubsequence xs (moves_left l.p l.steps l.lines) → IsSubsequence (moves_of l.p (take l.line-index l.now) ++ xs) (moves_of l.p l.before)
