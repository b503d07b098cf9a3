use Rattle.std.proofs.Common.{List, length}
use Rattle.schedule.specs.declared.lines.line.Line.{Line}
use Rattle.crashlab.specs.minimization.MadeOf.{IsSubsequence, moves_of}
use Rattle.crashlab.proofs.minimization.made_of.take_line.Given as goal

-- the moves after the lines so far are moves of all lines
abbrev pub invariant-loop-first : goal.invariant-loop-first
invariant-loop-first l = (xs : List Line) → IsSubsequence xs (moves_of l.p l.lines) → IsSubsequence xs (moves_of l.p l.fn.lines)

abbrev pub decreases-loop-first : goal.decreases-loop-first
decreases-loop-first l = length l.lines
