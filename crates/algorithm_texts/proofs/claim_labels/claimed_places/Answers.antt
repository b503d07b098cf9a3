use Rattle.std.proofs.Common.{◌∙◌, drop, sym, ap, inr}
use Rattle.std.proofs.lemmas.List.{at_drop_all}
use Rattle.algorithm_texts.specs.Drafts.{draft_view}
use Rattle.algorithm_texts.proofs.ClaimLabels.{claimed_at, place_missing, places_added, places_all, no_places}
use Rattle.algorithm_texts.proofs.claim_labels.claimed_places.Goals as goal

pub loop-claimed-preserved : goal.loop-claimed-preserved
loop-claimed-preserved c =
    let d = draft_view c.args.draft.now in
    let there = claimed_at d c.deref-claimed-items.result.now _ _ c.deref-claimed-items.ensures.value c.loop-claimed-test.true c.claimed-item.is in
    places_added d c.loop-claimed.claimed-index c.loop-claimed.places.items _ _ c.in-Some.place c.loop-claimed.invariant there (sym c.claimed_place.ensures ∙ c.in-Some.is) c.in_ok-add_place-in-Some.ensures.ok

pub returns-clause-ok : goal.returns-clause-ok
returns-clause-ok c =
    places_all (draft_view c.args.draft.now) c.loop-claimed.claimed-index c.loop-claimed.places.items c.loop-claimed.invariant
    (ap (drop c.loop-claimed.claimed-index) (sym c.deref-claimed-items.ensures.value)
    ∙ at_drop_all (λ ls. ls) c.deref-claimed-items.result.now c.loop-claimed.claimed-index c.loop-claimed-test.false)

pub returns-in-None-clause-err : goal.returns-in-None-clause-err
returns-in-None-clause-err c =
    let d = draft_view c.args.draft.now in
    let there = claimed_at d c.deref-claimed-items.result.now _ _ c.deref-claimed-items.ensures.value c.loop-claimed-test.true c.claimed-item.is in
    inr (no_places d (place_missing d _ c.loop-claimed.places.items _ c.loop-claimed.invariant there (sym c.claimed_place.ensures ∙ c.in-None.is)).1)

pub returns-in-None-clause-first : goal.returns-in-None-clause-first
returns-in-None-clause-first c =
    let d = draft_view c.args.draft.now in
    let there = claimed_at d c.deref-claimed-items.result.now _ _ c.deref-claimed-items.ensures.value c.loop-claimed-test.true c.claimed-item.is in
    inr (c.claimed-item.result, (place_missing d _ c.loop-claimed.places.items _ c.loop-claimed.invariant there (sym c.claimed_place.ensures ∙ c.in-None.is)).0, c.at.ensures)
