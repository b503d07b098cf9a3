-- What playing a schedule on a variant's world answers.
use Rattle.std.proofs.Common.{◌≡◌, ℕ, [], Some, None, Ok, Err, ap, ◌∙◌, sym, subst}
use Rattle.rmecore.specs.declared.refusal.Refusal.{Refusal}
use Rattle.rmecore.specs.Refused.{number_of}
use Rattle.judge.specs.Kept.{Kept}
use Rattle.judge.specs.Stands.{Keeps, StandsAfter}
use Rattle.judge.specs.Table.{State, empty_state}
use Rattle.rmeworld.specs.WorldState.{new_refusal}
use Rattle.schedule.specs.declared.texts.head.Head.{Head}
use Rattle.schedule.specs.declared.replays.replay_fault.ReplayFault.TheVariants.{Refused}
use Rattle.schedule.specs.declared.replays.verdict.Verdict.{Verdict}
use Rattle.schedule.specs.Runs.{deeds_of, run_on}
use Rattle.schedule.specs.Schedules.{Scheduled, head_of}
use Rattle.schedule.specs.Verdicts.{verdict_on}
use Rattle.schedule.specs.Wholes.{layout_of}
use Rattle.crashlab.specs.declared.variants.variant.Variant.{Variant}
use Rattle.crashlab.specs.variants.VariantWorlds.{VariantState, new_world, variant_behaviour}
use Rattle.crashlab.specs.minimization.Shrunk.{PlayAnswers, at_header, variant_run}

-- a judge that was given no deed is in its start state
pub keeps_first : (start : State) (judge : Kept) → StandsAfter start [] judge → Keeps judge start
keeps_first start judge stands =
    let same : start ≡ stands.state = cc (stands.legal) in
    subst (Keeps judge) (sym same) stands.kept

module _ (variant : Variant) (schedule : Scheduled) (head : Head) (world : VariantState) (judge : Kept) (named : head ≡ head_of schedule)
    (sized : new_refusal (record { procs = head.procs; cap = head.cap; width = head.width }) head.limit ≡ None)
    (made : world ≡ new_world variant (record { procs = head.procs; cap = head.cap; width = head.width }) head.limit)
    (stands : StandsAfter (empty_state head.procs head.cap) [] judge) where
  run : run_on variant_behaviour 2 world schedule.lines ≡ variant_run variant schedule
  unfolding variant_run
  run =
      ap (λ w. run_on variant_behaviour 2 w schedule.lines)
      (made ∙ ap (λ (h : Head). new_world variant (record { procs = h.procs; cap = h.cap; width = h.width }) h.limit) named)

  keeps : Keeps judge (empty_state schedule.procs schedule.cap)
  keeps = subst (λ (h : Head). Keeps judge (empty_state h.procs h.cap)) named (keeps_first (empty_state head.procs head.cap) judge stands)

  header : new_refusal (layout_of schedule) schedule.limit ≡ None
  header = subst (λ (h : Head). new_refusal (record { procs = h.procs; cap = h.cap; width = h.width }) h.limit ≡ None) named sized

  pub with_verdict : (verdict : Verdict)
      → ((start : State) → Keeps judge start → ((run_on variant_behaviour 2 world schedule.lines).refused ≡ None) × (verdict ≡ verdict_on start (deeds_of (run_on variant_behaviour 2 world schedule.lines).reports)))
      → PlayAnswers variant schedule (Ok verdict)
  with_verdict verdict reports =
      let r = reports (empty_state schedule.procs schedule.cap) keeps in (
        ap (λ o. at_header o (variant_run variant schedule).refused) header ∙ ap (λ x. x.refused) (sym run) ∙ r.0,
        r.1 ∙ ap (λ x. verdict_on (empty_state schedule.procs schedule.cap) (deeds_of x.reports)) run,
      )

  pub with_refusal : (line number : ℕ)
      → ((start : State) → Keeps judge start → (refusal : Refusal) × ((run_on variant_behaviour 2 world schedule.lines).refused ≡ Some (line, refusal)) × (number_of refusal ≡ Some number))
      → PlayAnswers variant schedule (Err (Refused line number))
  with_refusal line number reports =
      let r = reports (empty_state schedule.procs schedule.cap) keeps in
      (r.0, (ap (λ o. at_header o (variant_run variant schedule).refused) header ∙ ap (λ x. x.refused) (sym run) ∙ r.1), r.2)
