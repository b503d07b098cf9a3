use Rattle.std.proofs.Common.{length}
use Rattle.algorithm_texts.specs.Drafts.{draft_view}
use Rattle.algorithm_texts.proofs.RoundMarks.{Followed}
use Rattle.algorithm_texts.proofs.lines.Draft.follow_all.Given as goal

-- the places to which those so far lead are marked
abbrev pub invariant-loop-place : goal.invariant-loop-place
invariant-loop-place l = Followed (draft_view l.self) l.call l.left (length l.initial.followed) l.followed l.place
