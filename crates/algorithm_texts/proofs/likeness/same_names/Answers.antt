use Rattle.std.proofs.Common.{◌≡◌, refl, sym, ap, ◌∙◌, Some, slice_get, string_bytes}
use Rattle.std.proofs.lemmas.Bool.{both_ways, ltb-true}
use Rattle.std.proofs.lemmas.Option.{slice_get_read}
use Rattle.algorithm_texts.proofs.SameItems.{same_item}
use Rattle.algorithm_texts.proofs.likeness.same_names.Goals as goal

pub returns-then-not-same_name : goal.returns-then-not-same_name
returns-then-not-same_name c =
    let here : slice_get c.args.left.now c.loop-name.name-index ≡ Some c.name-item.result =
    slice_get_read c.args.left.now _ _ _ refl c.loop-name-test.true c.name-item.is in
    let place : slice_get c.args.right.now c.loop-name.place ≡ Some c.in-Some.other.now =
    slice_get_read c.args.right.now _ _ _ refl (ltb-true _ _ (sym c.in-Some.ensures.lookup.0)) c.in-Some.ensures.lookup.1 in
    let there : slice_get c.args.right.now c.loop-name.name-index ≡ Some c.in-Some.other.now =
    ap (slice_get c.args.right.now) (sym c.loop-name.invariant.here) ∙ place in (
      (λ h. absurd (cc)),
      (λ same. absurd (both_ways c.same_name.result c.if-not-same_name.true
          (c.same_name.ensures.1 (same_item (λ n. string_bytes n) _ _ c.loop-name.name-index _ _ here there same)))),
    )
