use Rattle.std.proofs.Common.{◌≡◌, refl, sym, ap, ◌∙◌, Some, slice_get}
use Rattle.std.proofs.lemmas.Bool.{both_ways, ltb-true}
use Rattle.std.proofs.lemmas.Option.{slice_get_read}
use Rattle.algorithm_texts.specs.Drafts.{line_of}
use Rattle.algorithm_texts.proofs.SameItems.{same_item}
use Rattle.algorithm_texts.proofs.likeness.same_lines.Goals as goal

pub returns-then-not-same_line : goal.returns-then-not-same_line
returns-then-not-same_line c =
    let here : slice_get c.args.left.now c.loop-line.line-index ≡ Some c.line-item.result =
    slice_get_read c.args.left.now _ _ _ refl c.loop-line-test.true c.line-item.is in
    let place : slice_get c.args.right.now c.loop-line.place ≡ Some c.in-Some.other.now =
    slice_get_read c.args.right.now _ _ _ refl (ltb-true _ _ (sym c.in-Some.ensures.lookup.0)) c.in-Some.ensures.lookup.1 in
    let there : slice_get c.args.right.now c.loop-line.line-index ≡ Some c.in-Some.other.now =
    ap (slice_get c.args.right.now) (sym c.loop-line.invariant.here) ∙ place in (
      (λ h. absurd (cc)),
      (λ same. absurd (both_ways c.same_line.result c.if-not-same_line.true
          (c.same_line.ensures.1 (same_item line_of _ _ c.loop-line.line-index _ _ here there same)))),
    )
