-- Two lists of which the second is moved into the first, one element after the other.
use Rattle.std.proofs.Common.{◌≡◌, ◌<◌, List, [], ◌∷◌, ◌++◌, map, sym, ap, ◌∙◌, append_assoc}
use Rattle.std.proofs.lemmas.List.{map-append}

-- one more of them was taken and handed back
pub moved_on : {A B C : Type 0} (f : A → C) (g : B → C) (done : List A) (d : A) (x : B) (left rest : List B) (all : List C) → map f done ++ map g left ≡ all → left ≡ x ∷ rest → f d ≡ g x → map f (done ++ d ∷ []) ++ map g rest ≡ all
moved_on {A = A} {B = B} {C = C} f g done d x left rest all old is same =
    ap (λ (l : List C). l ++ map g rest) (map-append f done (d ∷ [])) ∙ append_assoc (map f done) (f d ∷ []) (map g rest) ∙ ap (λ (c : C). map f done ++ c ∷ map g rest) same ∙ ap (λ (l : List B). map f done ++ map g l) (sym is) ∙ old
