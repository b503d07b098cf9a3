use Rattle.std.proofs.Common.{List, ◌++◌, length}
use Rattle.schedule.specs.declared.lines.line.Line.{Line}
use Rattle.crashlab.specs.minimization.MadeOf.{IsSubsequence, steps_by, moves_left}
use Rattle.crashlab.proofs.minimization.made_of.take_steps.Given as goal

-- what has the steps that are still to take has all of them
abbrev pub invariant-loop-steps : goal.invariant-loop-steps
invariant-loop-steps l = (xs : List Line) → IsSubsequence (steps_by l.p l.wanted ++ xs) (moves_left l.p l.steps l.lines) → IsSubsequence (steps_by l.p l.fn.wanted ++ xs) (moves_left l.p l.fn.steps l.fn.lines)

abbrev pub decreases-loop-steps : goal.decreases-loop-steps
decreases-loop-steps l = length l.lines
