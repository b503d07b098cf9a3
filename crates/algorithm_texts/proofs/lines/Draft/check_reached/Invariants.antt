use Rattle.std.proofs.Common.{◌≡◌, ℕ, ◌<◌, ◌≤◌, true}
use Rattle.algorithm_texts.specs.Drafts.{draft_view}
use Rattle.algorithm_texts.specs.FinishedDrafts.{is_in}
use Rattle.algorithm_texts.specs.Runs.{is_own}
use Rattle.algorithm_texts.specs.Usage.{uses, passes_at}
use Rattle.algorithm_texts.proofs.lines.Draft.check_reached.Given as goal

-- the lines so far are reached
abbrev pub invariant-loop-place : goal.invariant-loop-place
invariant-loop-place l = (at : ℕ) → l.fn.call.«from» ≤ at → at < l.place → passes_at (is_own (draft_view l.self).jumps at) (uses (draft_view l.self).lines) at ≡ true
    → is_in l.reached at ≡ true
