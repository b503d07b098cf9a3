use Rattle.std.proofs.Common.{◌≡◌, refl, sym, ap, ◌∙◌, Some, slice_get}
use Rattle.std.proofs.lemmas.Bool.{both_ways, ltb-true}
use Rattle.std.proofs.lemmas.Option.{slice_get_read}
use Rattle.algorithm_texts.specs.Drafts.{claim_form}
use Rattle.algorithm_texts.proofs.SameItems.{same_item}
use Rattle.algorithm_texts.proofs.likeness.claims.same_claims.Goals as goal

pub returns-then-not-same_claim : goal.returns-then-not-same_claim
returns-then-not-same_claim c =
    let here : slice_get c.args.left.now c.loop-claim.claim-index ≡ Some c.claim-item.result =
    slice_get_read c.args.left.now _ _ _ refl c.loop-claim-test.true c.claim-item.is in
    let place : slice_get c.args.right.now c.loop-claim.place ≡ Some c.in-Some.other.now =
    slice_get_read c.args.right.now _ _ _ refl (ltb-true _ _ (sym c.in-Some.ensures.lookup.0)) c.in-Some.ensures.lookup.1 in
    let there : slice_get c.args.right.now c.loop-claim.claim-index ≡ Some c.in-Some.other.now =
    ap (slice_get c.args.right.now) (sym c.loop-claim.invariant.here) ∙ place in (
      (λ h. absurd (cc)),
      (λ same. absurd (both_ways c.same_claim.result c.if-not-same_claim.true
          (c.same_claim.ensures.1 (same_item claim_form _ _ c.loop-claim.claim-index _ _ here there same)))),
    )
