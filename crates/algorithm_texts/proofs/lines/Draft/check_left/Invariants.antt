use Rattle.std.proofs.Common.{ℕ, ◌<◌, ◌≤◌}
use Rattle.algorithm_texts.specs.Drafts.{draft_view}
use Rattle.algorithm_texts.specs.Rounds.{ReturnsMarked}
use Rattle.algorithm_texts.proofs.lines.Draft.check_left.Given as goal

-- no run comes back to one of the places so far that are left
abbrev pub invariant-loop-place : goal.invariant-loop-place
invariant-loop-place l = (at : ℕ) → l.fn.call.«from» ≤ at → at < l.place → ReturnsMarked (draft_view l.self) l.fn.call l.left at → ⊥
