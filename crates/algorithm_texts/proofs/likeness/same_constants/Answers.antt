use Rattle.std.proofs.Common.{◌≡◌, refl, sym, ap, ◌∙◌, Some, slice_get}
use Rattle.std.proofs.lemmas.Bool.{both_ways, ltb-true}
use Rattle.std.proofs.lemmas.Option.{slice_get_read}
use Rattle.algorithm_texts.specs.Likeness.{named_value}
use Rattle.algorithm_texts.proofs.SameItems.{same_item}
use Rattle.algorithm_texts.proofs.likeness.same_constants.Goals as goal

pub returns-then-not-same_constant : goal.returns-then-not-same_constant
returns-then-not-same_constant c =
    let here : slice_get c.args.left.now c.loop-constant.constant-index ≡ Some c.constant-item.result =
    slice_get_read c.args.left.now _ _ _ refl c.loop-constant-test.true c.constant-item.is in
    let place : slice_get c.args.right.now c.loop-constant.place ≡ Some c.in-Some.other.now =
    slice_get_read c.args.right.now _ _ _ refl (ltb-true _ _ (sym c.in-Some.ensures.lookup.0)) c.in-Some.ensures.lookup.1 in
    let there : slice_get c.args.right.now c.loop-constant.constant-index ≡ Some c.in-Some.other.now =
    ap (slice_get c.args.right.now) (sym c.loop-constant.invariant.here) ∙ place in (
      (λ h. absurd (cc)),
      (λ same. absurd (both_ways c.same_constant.result c.if-not-same_constant.true
          (c.same_constant.ensures.1 (same_item named_value _ _ c.loop-constant.constant-index _ _ here there same)))),
    )
