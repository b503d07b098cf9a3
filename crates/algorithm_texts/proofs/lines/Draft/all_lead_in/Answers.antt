use Rattle.std.proofs.Common.{◌≡◌, true, sym, ◌∙◌}
use Rattle.std.proofs.lemmas.Bool.{both_ways}
use Rattle.algorithm_texts.specs.Drafts.{draft_view}
use Rattle.algorithm_texts.specs.FinishedDrafts.{is_in}
use Rattle.algorithm_texts.specs.Runs.{leads_in}
use Rattle.algorithm_texts.proofs.RunMarks.{below_next}
use Rattle.algorithm_texts.proofs.lines.Draft.all_lead_in.Goals as goal
use Rattle.algorithm_texts.proofs.lines.Draft.all_lead_in.Goals.{else-is_in-via-then-is_in+else-not-leads_in, else-is_in-via-else-is_in}

pub loop-place-preserved : goal.loop-place-preserved
loop-place-preserved c =
    below_next (λ at. is_in c.args.places.now at ≡ true → leads_in (draft_view c.args.self.now) c.args.call at ≡ true) c.args.call.«from» c.loop-place.place c.loop-place.invariant
    (λ marked. elim c.else-is_in.branch [
      | else-is_in-via-then-is_in+else-not-leads_in w ↦ sym w.leads_in.ensures ∙ w.if-not-leads_in.false
      | else-is_in-via-else-is_in w ↦ absurd (both_ways c.is_in.result w.if-is_in.false (c.is_in.ensures ∙ marked))
    ])
