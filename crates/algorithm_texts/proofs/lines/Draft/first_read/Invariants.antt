use Rattle.std.proofs.Common.{ℕ, ◌<◌, ◌≤◌}
use Rattle.algorithm_texts.specs.Drafts.{draft_view}
use Rattle.algorithm_texts.specs.Marks.{ReadsMarked}
use Rattle.algorithm_texts.proofs.lines.Draft.first_read.Given as goal

-- none of the lines so far reads the name
abbrev pub invariant-loop-place : goal.invariant-loop-place
invariant-loop-place l = (at : ℕ) → l.fn.call.«from» ≤ at → at < l.place → ReadsMarked (draft_view l.self) l.fn.call l.name l.places at → ⊥
