use Rattle.std.proofs.Common.{◌≡◌, refl, sym, ap, ◌∙◌, Some, slice_get}
use Rattle.std.proofs.lemmas.Bool.{both_ways, ltb-true}
use Rattle.std.proofs.lemmas.Option.{slice_get_read}
use Rattle.algorithm_texts.specs.Drafts.{start_term}
use Rattle.algorithm_texts.proofs.SameItems.{same_item}
use Rattle.algorithm_texts.proofs.likeness.same_starts.Goals as goal

pub returns-then-not-same_value_if : goal.returns-then-not-same_value_if
returns-then-not-same_value_if c =
    let here : slice_get c.args.left.now c.loop-start.start-index ≡ Some c.start-item.result =
    slice_get_read c.args.left.now _ _ _ refl c.loop-start-test.true c.start-item.is in
    let place : slice_get c.args.right.now c.loop-start.place ≡ Some c.in-Some.other.now =
    slice_get_read c.args.right.now _ _ _ refl (ltb-true _ _ (sym c.in-Some.ensures.lookup.0)) c.in-Some.ensures.lookup.1 in
    let there : slice_get c.args.right.now c.loop-start.start-index ≡ Some c.in-Some.other.now =
    ap (slice_get c.args.right.now) (sym c.loop-start.invariant.here) ∙ place in (
      (λ h. absurd (cc)),
      (λ same. absurd (both_ways c.same_value_if.result c.if-not-same_value_if.true
          (c.same_value_if.ensures.1 (same_item start_term _ _ c.loop-start.start-index _ _ here there same)))),
    )
