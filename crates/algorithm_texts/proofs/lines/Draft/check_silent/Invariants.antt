use Rattle.std.proofs.Common.{ℕ, ◌<◌, ◌≤◌}
use Rattle.algorithm_texts.specs.Drafts.{draft_view}
use Rattle.algorithm_texts.specs.Marks.{SeenMarked}
use Rattle.algorithm_texts.proofs.lines.Draft.check_silent.Given as goal

-- none of the lines so far is seen
abbrev pub invariant-loop-place : goal.invariant-loop-place
invariant-loop-place l = (at : ℕ) → l.fn.call.«from» ≤ at → at < l.place → SeenMarked (draft_view l.self) l.fn.call l.silent at → ⊥
