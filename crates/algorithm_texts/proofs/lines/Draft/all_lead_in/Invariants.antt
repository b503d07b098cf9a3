use Rattle.std.proofs.Common.{◌≡◌, ℕ, ◌<◌, ◌≤◌, true}
use Rattle.algorithm_texts.specs.Drafts.{draft_view}
use Rattle.algorithm_texts.specs.FinishedDrafts.{is_in}
use Rattle.algorithm_texts.specs.Runs.{leads_in}
use Rattle.algorithm_texts.proofs.lines.Draft.all_lead_in.Given as goal

-- the lines so far lead to lines of the call
abbrev pub invariant-loop-place : goal.invariant-loop-place
invariant-loop-place l = (at : ℕ) → l.call.«from» ≤ at → at < l.place → is_in l.places at ≡ true → leads_in (draft_view l.self) l.call at ≡ true
