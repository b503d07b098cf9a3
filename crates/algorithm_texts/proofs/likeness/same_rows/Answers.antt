use Rattle.std.proofs.Common.{◌≡◌, refl, sym, ap, ◌∙◌, Some, slice_get}
use Rattle.std.proofs.lemmas.Bool.{both_ways, ltb-true}
use Rattle.std.proofs.lemmas.Option.{slice_get_read}
use Rattle.algorithm_texts.specs.Operands.{row_of}
use Rattle.algorithm_texts.proofs.SameItems.{same_item}
use Rattle.algorithm_texts.proofs.likeness.same_rows.Goals as goal

pub returns-then-not-same_row : goal.returns-then-not-same_row
returns-then-not-same_row c =
    let here : slice_get c.args.left.now c.loop-row.row-index ≡ Some c.row-item.result =
    slice_get_read c.args.left.now _ _ _ refl c.loop-row-test.true c.row-item.is in
    let place : slice_get c.args.right.now c.loop-row.place ≡ Some c.in-Some.other.now =
    slice_get_read c.args.right.now _ _ _ refl (ltb-true _ _ (sym c.in-Some.ensures.lookup.0)) c.in-Some.ensures.lookup.1 in
    let there : slice_get c.args.right.now c.loop-row.row-index ≡ Some c.in-Some.other.now =
    ap (slice_get c.args.right.now) (sym c.loop-row.invariant.here) ∙ place in (
      (λ h. absurd (cc)),
      (λ same. absurd (both_ways c.same_row.result c.if-not-same_row.true
          (c.same_row.ensures.1 (same_item row_of _ _ c.loop-row.row-index _ _ here there same)))),
    )
