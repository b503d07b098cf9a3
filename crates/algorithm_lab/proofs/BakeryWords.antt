-- The shared words of the text beside the lock words.
use Rattle.std.proofs.Common.{◌≡◌, ℕ, zero, suc, ◌<◌, ◌≤◌, if◌then◌else◌, List, [], ◌∷◌, length, Some, refl, sym, ap, ◌∙◌, subst, inl, inr, arith, replicate}
use Rattle.std.specs.Prelude.{slice_get, slice_set}
use Rattle.std.proofs.lemmas.Bool.{cases_eq, lt-ltb}
use Rattle.std.proofs.lemmas.List.{length-set}
use Rattle.rmecore.specs.World.{write, read}
use Rattle.rmecore.specs.Machine.{InLock}
use Rattle.rmecore.specs.Needs.{put}
use Rattle.rmecore.specs.declared.own.Own.{Own}
use Rattle.rmecore.specs.declared.word.Word.{Word}
use Rattle.rmecore.specs.declared.word.Word.TheVariants.{Choosing as ChoosingOf, Number as NumberOf, Inside as InsideOf, Data as DataAt}
use Rattle.rmecore.proofs.Invariant.{put_same, put_other}
use Rattle.algorithms.specs.Steps.{word_at}
use Rattle.algorithms.specs.Worlds.{words_after_access, stored_in}
use Rattle.algorithm_lab.proofs.BakerySteps.{address_of}

pub set_here : {X : Type 0} (xs : List X) (i : ℕ) (v : X) → i < length xs → slice_get (slice_set xs i v) i ≡ Some v
set_here [] i v h = absurd (omega arith)
set_here (x ∷ xs) zero v h = refl
set_here (x ∷ xs) (suc i) v h = set_here xs i v (omega arith)

pub set_there : {X : Type 0} (xs : List X) (i j : ℕ) (v : X) → (j ≡ i → ⊥) → slice_get (slice_set xs i v) j ≡ slice_get xs j
set_there [] i j v other = refl
set_there (x ∷ xs) zero zero v other = absurd (other refl)
set_there (x ∷ xs) zero (suc j) v other = refl
set_there (x ∷ xs) (suc i) zero v other = refl
set_there (x ∷ xs) (suc i) (suc j) v other = set_there xs i j v (λ e. other (ap suc e))

pub replicated : {X : Type 0} (n i : ℕ) (x : X) → i < n → slice_get (replicate n x) i ≡ Some x
replicated zero i x h = absurd (omega arith)
replicated (suc n) zero x h = refl
replicated (suc n) (suc i) x h = replicated n i x (omega arith)

-- a row has a word of each process
pub record IsRowOf (n : ℕ) (f : ℕ → ℕ) (row : List ℕ) : Type 0 where
  pub long : length row ≡ 64
  pub each : (p : ℕ) → p < n → slice_get row p ≡ Some (f p)

row_kept : (n : ℕ) (f g : ℕ → ℕ) (row : List ℕ) → ((p : ℕ) → f p ≡ g p) → IsRowOf n f row → IsRowOf n g row
row_kept n f g row same h = record { long = h.long; each = λ p low. h.each p low ∙ ap Some (same p) }

row_set : (n q v : ℕ) (f g : ℕ → ℕ) (row : List ℕ) → q < 64 → g q ≡ v → ((p : ℕ) → (p ≡ q → ⊥) → g p ≡ f p) → IsRowOf n f row → IsRowOf n g (slice_set row q v)
row_set n q v f g row low here there h = record {
  long = length-set row q v ∙ h.long;
  each = λ p own. elim (cases_eq p q) [
    | inl e ↦ subst (λ r. slice_get (slice_set row q v) r ≡ Some (g r)) (sym e) (set_here row q v (omega (arith, h.long)) ∙ ap Some (sym here))
    | inr ne ↦ set_there row q p v ne ∙ h.each p own ∙ ap Some (sym (there p ne))
  ];
}

-- the words of the text are those of the lock
pub record AlikeWords (n : ℕ) (words : ℕ → Own) (rows : List (List ℕ)) : Type 0 where
  pub choosing : List ℕ
  pub number : List ℕ
  pub inside : List ℕ
  pub is : rows ≡ choosing ∷ number ∷ inside ∷ []
  pub choosing_each : IsRowOf n (λ p. (words p).choosing) choosing
  pub number_each : IsRowOf n (λ p. (words p).number) number
  pub inside_each : IsRowOf n (λ p. (words p).inside) inside

-- a load reads the same
pub reports : (n : ℕ) (words : ℕ → Own) (rows : List (List ℕ)) (word : Word) → InLock n word → AlikeWords n words rows → word_at rows (address_of word) ≡ Some (read words word)
reports n words rows (ChoosingOf q) low h = ap (λ rows. word_at rows (address_of (ChoosingOf q))) h.is ∙ h.choosing_each.each q low
reports n words rows (NumberOf q) low h = ap (λ rows. word_at rows (address_of (NumberOf q))) h.is ∙ h.number_each.each q low
reports n words rows (InsideOf q) low h = ap (λ rows. word_at rows (address_of (InsideOf q))) h.is ∙ h.inside_each.each q low
reports n words rows (DataAt i) low h = absurd low

put_field : (f : Own → ℕ) (words : ℕ → Own) (q : ℕ) (x : Own) → f x ≡ f (words q) → (p : ℕ) → f (words p) ≡ f (put words q x p)
put_field f words q x e p =
    elim (cases_eq p q) [
      | inl same ↦ subst (λ r. f (words r) ≡ f (put words q x r)) (sym same) (sym e ∙ ap f (sym (put_same words q x)))
      | inr ne ↦ ap f (sym (put_other words q x p ne))
    ]

-- a store leaves the same
pub stores_alike : (n : ℕ) (words : ℕ → Own) (rows : List (List ℕ)) (word : Word) (v : ℕ) → n ≤ 64 → InLock n word → AlikeWords n words rows → AlikeWords n (write words word v) (words_after_access rows (address_of word) (Some v))
stores_alike n words rows (ChoosingOf q) v most low h = record {
  choosing = slice_set h.choosing q v;
  number = h.number;
  inside = h.inside;
  is = ap (λ t. if t then stored_in rows (address_of (ChoosingOf q)) v (slice_get rows 0) else rows) (lt-ltb q 64 (omega arith)) ∙ ap (λ rows. stored_in rows (address_of (ChoosingOf q)) v (slice_get rows 0)) h.is;
  choosing_each = row_set n q v (λ p. (words p).choosing) (λ p. (write words (ChoosingOf q) v p).choosing) h.choosing (omega arith) (ap (λ x. x.choosing) (put_same words q _)) (λ p ne. ap (λ x. x.choosing) (put_other words q _ p ne)) h.choosing_each;
  number_each = row_kept n _ _ h.number (put_field (λ x. x.number) words q (record (words q) { choosing = v }) refl) h.number_each;
  inside_each = row_kept n _ _ h.inside (put_field (λ x. x.inside) words q (record (words q) { choosing = v }) refl) h.inside_each;
}
stores_alike n words rows (NumberOf q) v most low h = record {
  choosing = h.choosing;
  number = slice_set h.number q v;
  inside = h.inside;
  is = ap (λ t. if t then stored_in rows (address_of (NumberOf q)) v (slice_get rows 1) else rows) (lt-ltb q 64 (omega arith)) ∙ ap (λ rows. stored_in rows (address_of (NumberOf q)) v (slice_get rows 1)) h.is;
  choosing_each = row_kept n _ _ h.choosing (put_field (λ x. x.choosing) words q (record (words q) { number = v }) refl) h.choosing_each;
  number_each = row_set n q v (λ p. (words p).number) (λ p. (write words (NumberOf q) v p).number) h.number (omega arith) (ap (λ x. x.number) (put_same words q _)) (λ p ne. ap (λ x. x.number) (put_other words q _ p ne)) h.number_each;
  inside_each = row_kept n _ _ h.inside (put_field (λ x. x.inside) words q (record (words q) { number = v }) refl) h.inside_each;
}
stores_alike n words rows (InsideOf q) v most low h = record {
  choosing = h.choosing;
  number = h.number;
  inside = slice_set h.inside q v;
  is = ap (λ t. if t then stored_in rows (address_of (InsideOf q)) v (slice_get rows 2) else rows) (lt-ltb q 64 (omega arith)) ∙ ap (λ rows. stored_in rows (address_of (InsideOf q)) v (slice_get rows 2)) h.is;
  choosing_each = row_kept n _ _ h.choosing (put_field (λ x. x.choosing) words q (record (words q) { inside = v }) refl) h.choosing_each;
  number_each = row_kept n _ _ h.number (put_field (λ x. x.number) words q (record (words q) { inside = v }) refl) h.number_each;
  inside_each = row_set n q v (λ p. (words p).inside) (λ p. (write words (InsideOf q) v p).inside) h.inside (omega arith) (ap (λ x. x.inside) (put_same words q _)) (λ p ne. ap (λ x. x.inside) (put_other words q _ p ne)) h.inside_each;
}
stores_alike n words rows (DataAt i) v most low h = absurd low
