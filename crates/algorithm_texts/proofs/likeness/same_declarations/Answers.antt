use Rattle.std.proofs.Common.{◌≡◌, refl, sym, ap, ◌∙◌, Some, slice_get, string_bytes}
use Rattle.std.proofs.lemmas.Bool.{both_ways, ltb-true}
use Rattle.std.proofs.lemmas.Option.{slice_get_read}
use Rattle.std.specs.Option.{option_map}
use Rattle.algorithm_texts.specs.Parts.{term_of}
use Rattle.algorithm_texts.specs.Drafts.{extent_of}
use Rattle.algorithm_texts.proofs.SameItems.{same_item}
use Rattle.algorithm_texts.proofs.likeness.same_declarations.Goals as goal

pub returns-then-not-same_declaration : goal.returns-then-not-same_declaration
returns-then-not-same_declaration c =
    let here : slice_get c.args.left.now c.loop-declaration.declaration-index ≡ Some c.declaration-item.result =
    slice_get_read c.args.left.now _ _ _ refl c.loop-declaration-test.true c.declaration-item.is in
    let place : slice_get c.args.right.now c.loop-declaration.place ≡ Some c.in-Some.other.now =
    slice_get_read c.args.right.now _ _ _ refl (ltb-true _ _ (sym c.in-Some.ensures.lookup.0)) c.in-Some.ensures.lookup.1 in
    let there : slice_get c.args.right.now c.loop-declaration.declaration-index ≡ Some c.in-Some.other.now =
    ap (slice_get c.args.right.now) (sym c.loop-declaration.invariant.here) ∙ place in (
      (λ h. absurd (cc)),
      (λ same. absurd (both_ways c.same_declaration.result c.if-not-same_declaration.true
          (c.same_declaration.ensures.1 (record {
            name = same_item (λ d. string_bytes d.name) _ _ c.loop-declaration.declaration-index _ _ here there same.names;
            extent = same_item (λ d. extent_of d.extent) _ _ c.loop-declaration.declaration-index _ _ here there same.extents;
            bound = same_item (λ d. option_map (λ v. term_of v) d.bound) _ _ c.loop-declaration.declaration-index _ _ here there same.bounds;
            home = same_item (λ d. option_map (λ v. term_of v) d.home) _ _ c.loop-declaration.declaration-index _ _ here there same.homes;
          })))),
    )
