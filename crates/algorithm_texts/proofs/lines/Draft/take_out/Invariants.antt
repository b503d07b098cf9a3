use Rattle.algorithm_texts.specs.Drafts.{draft_view}
use Rattle.algorithm_texts.proofs.RoundMarks.{TakenOut}
use Rattle.algorithm_texts.proofs.lines.Draft.take_out.Given as goal

-- what is left of the places so far
abbrev pub invariant-loop-place : goal.invariant-loop-place
invariant-loop-place l = TakenOut (draft_view l.self) l.call l.initial.left l.left l.place l.fewer
