-- The ahead sets of an image, built name by name.
use Rattle.std.proofs.Common.{◌≡◌, ◌≢◌, ℕ, ◌+◌, ◌<◌, ◌≤◌, Bool, true, false, ◌||◌, ◌==◌, List, [], ◌∷◌, ◌++◌, length, map, slice_index_or, inl, inr, refl, sym, ap, ◌∙◌, arith, eq-eqb, ne_eqb, Result, Ok, Err, IfErr, IsErrOf, ◌⊎◌}
use Rattle.rmeworld.proofs.ImageCommon.{get_or-append_seam, cases_eq, length-map, map-append, Refusal, OutOfMemory, BadShape, is_named}
use Rattle.std.proofs.Math.ListN.{get_or-append}
use Rattle.std.proofs.lemmas.List.Folds.{list_any-append}

or_true : (b : Bool) → (b || true) ≡ true
or_true true = refl
or_true false = refl

or_false : (b : Bool) → (b || false) ≡ b
or_false true = refl
or_false false = refl

named_last : (xs : List ℕ) (x : ℕ) → is_named (xs ++ x ∷ []) x ≡ true
named_last xs x = list_any-append (λ y. y == x) xs (x ∷ []) ∙ rw (eq-eqb x x refl) (or_true (is_named xs x))

named_before : (xs : List ℕ) (x q : ℕ) → x ≢ q → is_named (xs ++ x ∷ []) q ≡ is_named xs q
named_before xs x q other = list_any-append (λ y. y == q) xs (x ∷ []) ∙ rw (ne_eqb x q other) (or_false (is_named xs q))

-- the names are those below k for which the function is true
pub record NamesBelow (f : ℕ → Bool) (k : ℕ) (xs : List ℕ) : Type 0 where
  pub below : (q : ℕ) → q < k → is_named xs q ≡ f q
  pub above : (q : ℕ) → k ≤ q → is_named xs q ≡ false

pub one_named : (f : ℕ → Bool) (k : ℕ) (xs : List ℕ) → f k ≡ true → NamesBelow f k xs → NamesBelow f (k + 1) (xs ++ k ∷ [])
one_named f k xs here n = record {
  below = λ q low.
      elim (cases_eq q k) [
        | inl same ↦ rw same (named_last xs k ∙ sym here)
        | inr other ↦ named_before xs k q (λ e. other (sym e)) ∙ n.below q (omega (arith, other))
      ];
  above = λ q high. named_before xs k q (λ e. absurd (omega (arith, e))) ∙ n.above q (omega arith);
}

pub none_named : (f : ℕ → Bool) (k : ℕ) (xs : List ℕ) → f k ≡ false → NamesBelow f k xs → NamesBelow f (k + 1) xs
none_named f k xs here n = record {
  below = λ q low.
      elim (cases_eq q k) [
        | inl same ↦ rw same (n.above k (omega arith) ∙ sym here)
        | inr other ↦ n.below q (omega (arith, other))
      ];
  above = λ q high. n.above q (omega arith);
}

-- one more set
pub one_set : {A : Type 0} (items : A → List ℕ) (f : ℕ → ℕ → Bool) (sets : List A) (set : A) (k : ℕ) → length sets ≡ k
    → ((p q : ℕ) → p < k → is_named (slice_index_or (map items sets) p []) q ≡ f p q) → ((q : ℕ) → is_named (items set) q ≡ f k q)
    → (p q : ℕ) → p < k + 1 → is_named (slice_index_or (map items (sets ++ set ∷ [])) p []) q ≡ f p q
one_set items f sets set k len before here p q low =
    let more = map-append items sets (set ∷ []) in
    let n : length (map items sets) ≡ k = length-map sets items ∙ len in
    elim (cases_eq p k) [
      | inl same ↦
          (let e : slice_index_or (map items sets ++ items set ∷ []) (length (map items sets)) [] ≡ items set = get_or-append_seam (map items sets) (items set) [] [] in
          rw (more, same, ← n, e, n) (here q))
      | inr other ↦
          (let e : slice_index_or (map items sets ++ items set ∷ []) p [] ≡ slice_index_or (map items sets) p [] = get_or-append (map items sets) (items set ∷ []) [] p (omega (arith, n, other)) in
          rw (more, e) (before p q (omega (arith, other))))
    ]

-- if the words have content, the only refusal is out of memory
pub only_memory : {T : Type 0} (r : Result T Refusal) (P : Type 0) → IfErr r (λ e. (e ≡ BadShape) ⊎ (e ≡ OutOfMemory)) → (IsErrOf r BadShape → P → ⊥) → P → IfErr r (λ e. e ≡ OutOfMemory)
only_memory (Ok x) P only refused p = tt
only_memory (Err e) P only refused p = elim only [ inl bad ↦ absurd (refused (ap Err bad) p) | inr short ↦ short ]
