use Rattle.std.proofs.Common.{◌≡◌, ℕ, ◌<◌, ◌≤◌, None}
use Rattle.algorithm_texts.specs.Drafts.{draft_view}
use Rattle.algorithm_texts.specs.Marks.{free_way}
use Rattle.algorithm_texts.proofs.lines.Draft.next_free.Given as goal

-- the places so far lead to none that is left
abbrev pub invariant-loop-place : goal.invariant-loop-place
invariant-loop-place l = (at : ℕ) → l.call.«from» ≤ at → at < l.place → free_way (draft_view l.self) l.call l.runs l.marks at ≡ None
