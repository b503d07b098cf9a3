use Rattle.algorithm_texts.specs.Drafts.{draft_view}
use Rattle.algorithm_texts.proofs.RunMarks.{PastMarked}
use Rattle.algorithm_texts.proofs.lines.Draft.mark_past.Given as goal

-- where runs come from the places so far is marked
abbrev pub invariant-loop-place : goal.invariant-loop-place
invariant-loop-place l = PastMarked (draft_view l.self) l.call l.name l.reached l.initial.marks l.marks l.place
