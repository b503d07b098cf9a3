-- A list that grows by a function's values at the indexes.
use Rattle.std.proofs.Common.{◌≡◌, ℕ, ◌+◌, ◌<◌, List, [], ◌∷◌, ◌++◌, length, slice_index_or, inl, inr, arith}
use Rattle.std.proofs.Math.ListN.{get_or-append}
use Rattle.std.proofs.Math.Seq.{get_or-append_seam}
use Rattle.std.proofs.lemmas.Bool.{cases_eq}

-- one more element
pub each_more : {A : Type 0} (old new : List A) (x d : A) (f : ℕ → A) (k : ℕ) → length old ≡ k → ((p : ℕ) → p < k → slice_index_or old p d ≡ f p) → new ≡ old ++ x ∷ [] → x ≡ f k
    → (p : ℕ) → p < k + 1 → slice_index_or new p d ≡ f p
each_more old new x d f k len before push is p low =
    elim (cases_eq p k) [
      | inl same ↦
          (let e : slice_index_or (old ++ x ∷ []) (length old) d ≡ x = get_or-append_seam old x [] d in
          rw (push, same, ← len, e, len) is)
      | inr other ↦
          (let e : slice_index_or (old ++ x ∷ []) p d ≡ slice_index_or old p d = get_or-append old (x ∷ []) d p (omega (arith, len, other)) in
          rw (push, e) (before p (omega (arith, other))))
    ]
