use Rattle.std.proofs.Common.{ℕ, ◌<◌, ◌≤◌, length}
use Rattle.algorithm_texts.specs.Drafts.{draft_view}
use Rattle.algorithm_texts.specs.Lawful.{LineFits}
use Rattle.algorithm_texts.specs.Usage.{uses}
use Rattle.algorithm_texts.proofs.lines.Draft.check_lines.Given as goal

-- the lines so far fit
abbrev pub invariant-loop-place : goal.invariant-loop-place
invariant-loop-place l = (at : ℕ) → l.call.«from» ≤ at → at < l.place
    → LineFits (uses (draft_view l.self).lines) (draft_view l.self).head.promises (draft_view l.self).lasting (length (draft_view l.self).names) l.call at
