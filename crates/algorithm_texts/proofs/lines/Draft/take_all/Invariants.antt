use Rattle.std.proofs.Common.{◌+◌, cond}
use Rattle.algorithm_texts.specs.Drafts.{draft_view}
use Rattle.algorithm_texts.specs.Rounds.{count_marks}
use Rattle.algorithm_texts.proofs.RoundMarks.{AllTaken}
use Rattle.algorithm_texts.proofs.lines.Draft.take_all.Given as goal

-- how many places are left
abbrev pub decreases-loop-more : goal.decreases-loop-more
decreases-loop-more l = count_marks l.left + cond l.more 1 0

-- what is left
abbrev pub invariant-loop-more : goal.invariant-loop-more
invariant-loop-more l = AllTaken (draft_view l.self) l.call l.initial.left l.left l.followed l.more
