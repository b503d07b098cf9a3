-- A list that grows by the values of another list's elements, one at a time.
use Rattle.std.proofs.Common.{◌≡◌, ℕ, ◌+◌, ◌<◌, ◌≤◌, List, [], ◌∷◌, ◌++◌, Vec, Global, length, get_or, map, take, sym, ap, ◌∙◌}
use Rattle.std.proofs.lemmas.List.{map_push, map_more, take_all}
use Rattle.rmeworld.proofs.ImageCommon.{array, view, items_of}
use Rattle.serde_json.proofs.Views.{view-Array}
use Rattle.serde_json.specs.Data.{Data}
use Rattle.serde_json.specs.declared.value.Value.{Value}
use Rattle.serde_json.specs.declared.value.Value.TheVariants.{Array}

pub mapped_on : {A B C : Type 0} (f : A → C) (g : B → C) (old new : List A) (ys : List B) (k : ℕ) (d : B) (x : A) → map f old ≡ map g (take k ys) → new ≡ old ++ x ∷ [] → k < length ys → f x ≡ g (get_or ys k d) → map f new ≡ map g (take (k + 1) ys)
mapped_on f g old new ys k d x same push below is = ap (map f) push ∙ map_push f old x ∙ (λ i. same i ++ is i ∷ []) ∙ sym (map_more g ys k d below)

pub mapped_more : {B C : Type 0} (g : B → C) (old new : List C) (ys : List B) (k : ℕ) (d : B) (x : C) → old ≡ map g (take k ys) → new ≡ old ++ x ∷ [] → k < length ys → x ≡ g (get_or ys k d) → new ≡ map g (take (k + 1) ys)
mapped_more g old new ys k d x same push below is = push ∙ (λ i. same i ++ is i ∷ []) ∙ sym (map_more g ys k d below)

-- a JSON list of all of them
pub listed : {B : Type 0} (g : B → Data) (items : Vec Value Global) (ys : List B) (k : ℕ) → map view items.items ≡ map g (take k ys) → length ys ≤ k → view (Array items) ≡ array (items_of (map g ys))
listed g items ys k same all = view-Array items ∙ ap (λ ds. array (items_of ds)) (same ∙ ap (map g) (take_all k ys all))
