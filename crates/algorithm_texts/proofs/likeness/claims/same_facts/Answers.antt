use Rattle.std.proofs.Common.{◌≡◌, refl, sym, ap, ◌∙◌, Some, slice_get}
use Rattle.std.proofs.lemmas.Bool.{both_ways, ltb-true}
use Rattle.std.proofs.lemmas.Option.{slice_get_read}
use Rattle.algorithm_texts.specs.Drafts.{fact_form}
use Rattle.algorithm_texts.proofs.SameItems.{same_item}
use Rattle.algorithm_texts.proofs.likeness.claims.same_facts.Goals as goal

pub returns-then-not-same_fact : goal.returns-then-not-same_fact
returns-then-not-same_fact c =
    let here : slice_get c.args.left.now c.loop-fact.fact-index ≡ Some c.fact-item.result =
    slice_get_read c.args.left.now _ _ _ refl c.loop-fact-test.true c.fact-item.is in
    let place : slice_get c.args.right.now c.loop-fact.place ≡ Some c.in-Some.other.now =
    slice_get_read c.args.right.now _ _ _ refl (ltb-true _ _ (sym c.in-Some.ensures.lookup.0)) c.in-Some.ensures.lookup.1 in
    let there : slice_get c.args.right.now c.loop-fact.fact-index ≡ Some c.in-Some.other.now =
    ap (slice_get c.args.right.now) (sym c.loop-fact.invariant.here) ∙ place in (
      (λ h. absurd (cc)),
      (λ same. absurd (both_ways c.same_fact.result c.if-not-same_fact.true
          (c.same_fact.ensures.1 (same_item fact_form _ _ c.loop-fact.fact-index _ _ here there same)))),
    )
