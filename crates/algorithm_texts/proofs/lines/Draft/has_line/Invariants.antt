use Rattle.std.proofs.Common.{◌≡◌, ℕ, ◌<◌, ◌≤◌, true}
use Rattle.algorithm_texts.specs.Drafts.{draft_view}
use Rattle.algorithm_texts.specs.Usage.{has_usage, uses, passes_at}
use Rattle.algorithm_texts.proofs.lines.Draft.has_line.Given as goal

-- none of the lines so far does
abbrev pub invariant-loop-place : goal.invariant-loop-place
invariant-loop-place l = (at : ℕ) → l.fn.call.«from» ≤ at → at < l.place → passes_at (has_usage l.usage l.name) (uses (draft_view l.self).lines) at ≡ true → ⊥
