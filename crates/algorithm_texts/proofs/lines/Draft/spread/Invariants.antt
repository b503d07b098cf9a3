use Rattle.std.proofs.Common.{not}
use Rattle.std.specs.List.{count_by}
use Rattle.algorithm_texts.specs.Drafts.{draft_view}
use Rattle.algorithm_texts.proofs.RunMarks.{Spreads}
use Rattle.algorithm_texts.proofs.lines.Draft.spread.Given as goal

-- how many places are left
abbrev pub decreases-loop-place : goal.decreases-loop-place
decreases-loop-place l = count_by not l.marks

-- runs come to the places that are marked
abbrev pub invariant-loop-place : goal.invariant-loop-place
invariant-loop-place l = Spreads (draft_view l.self) l.call l.runs l.initial.marks l.marks
