-- Lists with the same values of a function have them at each place.
use Rattle.std.proofs.Common.{◌≡◌, ℕ, List, map, Option, Some, sym, ap, ◌∙◌, slice_get}
use Rattle.std.specs.Option.{option_map}
use Rattle.std.proofs.lemmas.Option.{same_Some, slice_get-map}

pub same_item : {A B : Type 0} (f : A → B) (xs ys : List A) (i : ℕ) (x y : A) → slice_get xs i ≡ Some x → slice_get ys i ≡ Some y → map f xs ≡ map f ys → f x ≡ f y
same_item f xs ys i x y here there same = same_Some (f x) (f y)
    (sym (slice_get-map f xs i ∙ ap (option_map f) here)
    ∙ ap (λ zs. slice_get zs i) same
    ∙ slice_get-map f ys i ∙ ap (option_map f) there)
