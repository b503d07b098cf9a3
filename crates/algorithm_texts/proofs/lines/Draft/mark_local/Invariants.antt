use Rattle.algorithm_texts.specs.Drafts.{draft_view}
use Rattle.algorithm_texts.specs.Rounds.{LocalMarked}
use Rattle.algorithm_texts.proofs.RunMarks.{MarkedSo}
use Rattle.algorithm_texts.proofs.lines.Draft.mark_local.Given as goal

-- the local places so far are marked that are reached
abbrev pub invariant-loop-place : goal.invariant-loop-place
invariant-loop-place l = MarkedSo l.fn.call.«from» (LocalMarked (draft_view l.self) l.fn.call l.reached) l.initial.left l.left l.place
