-- Counts of a list that is one longer.
use Rattle.std.proofs.Common.{subst, ◌≡◌, ◌≢◌, ℕ, ◌+◌, ◌<◌, ◌≤◌, Bool, List, [], ◌∷◌, ◌++◌, length, count_by, cond, ◌==◌, refl, sym, inl, inr, arith, get_or, set, get_or-set_same, get_or-set_other, eq-eqb, ne_eqb}
use Rattle.judge.proofs.Common.{cases_eq, cond-true, cond-false, Message, is_by, Lists}
use Rattle.std.proofs.lemmas.List.Sums.{sum_by-append}
pub use Rattle.redomail.specs.Shape.{bit as one_if}

pub count_cons : {X : Type 0} (f : X → Bool) (x : X) (xs : List X) → count_by f (x ∷ xs) ≡ one_if (f x) + count_by f xs
count_cons f x xs = let e = sum_by-append (λ y. cond (f y) 1 0) (x ∷ []) xs in omega (arith, e)

pub count_push : {X : Type 0} (f : X → Bool) (xs : List X) (x : X) → count_by f (xs ++ x ∷ []) ≡ count_by f xs + one_if (f x)
count_push f xs x = let e = sum_by-append (λ y. cond (f y) 1 0) xs (x ∷ []) in omega (arith, e)

-- one more message of p adds one to p's count alone
pub Lists-counted : (counts : List ℕ) (n : ℕ) (shown : List Message) (m : Message) (v : ℕ) → n ≤ length counts → m.sender < n
    → v ≡ get_or counts m.sender v → Lists counts n (λ k. count_by (is_by k) shown)
    → Lists (set counts m.sender (v + 1)) n (λ k. count_by (is_by k) (shown ++ m ∷ []))
Lists-counted counts n shown m v le below is lists k d l = elim (cases_eq m.sender k) [
  | inl same ↦
      (let here : m.sender < length counts = omega arith in
      let was = lists m.sender v below in
      let more = count_push (is_by m.sender) shown m in
      let one : one_if (m.sender == m.sender) ≡ 1 = cond-true (m.sender == m.sender) _ _ (eq-eqb m.sender m.sender refl) in
      rw (← same, get_or-set_same) (omega (arith, is, was, more, one)))
  | inr other ↦
      (let ne : k ≢ m.sender = λ e. other (sym e) in
      let was = lists k d l in
      let more = count_push (is_by k) shown m in
      let none : one_if (m.sender == k) ≡ 0 = cond-false (m.sender == k) _ _ (ne_eqb m.sender k other) in
      rw get_or-set_other (omega (arith, was, more, none)))
]

-- counts that are at most the number shown, after one more message of p
pub counts_low_more : (counts : List ℕ) (p v n shown : ℕ) → p < length counts → v ≡ get_or counts p 0
    → ((k : ℕ) → k < n → get_or counts k 0 ≤ shown)
    → (k : ℕ) → k < n → get_or (set counts p (v + 1)) k 0 ≤ shown + 1
counts_low_more counts p v n shown within is low k l = elim (cases_eq p k) [
  | inl same ↦ rw (← same, get_or-set_same) (omega (arith, is, subst (λ i. get_or counts i 0 ≤ shown) (sym same) (low k l)))
  | inr other ↦ (let ne : k ≢ p = λ e. other (sym e) in rw get_or-set_other (omega (arith, low k l)))
]
