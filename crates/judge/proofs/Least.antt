-- The least number for which a test holds.
use Rattle.std.proofs.Common.{◌≡◌, ℕ, zero, suc, ◌<◌, Bool, true, false, not, List, [], ◌∷◌, length, refl, sym, ◌∙◌, ap, inl, inr, arith, get_or, true≢false}
use Rattle.judge.proofs.Common.{cases_Bool, or_cases, false_from_ne_true, false≢true, list_any_at, least_below, none_below, Lists}
use Rattle.std.specs.List.{list_any}
use Rattle.rmecore.proofs.Allowing.{none_below-from}
use Rattle.judge.proofs.Steps.{none_below-at}

pub least-at : (n : ℕ) (test : ℕ → Bool) (q : ℕ) → q < n → test q ≡ true → ((k : ℕ) → k < q → test k ≡ false) → least_below n test ≡ q
least-at zero test q h e below = absurd (omega arith)
least-at (suc n) test zero h e below = rw e refl
least-at (suc n) test (suc q) h e below =
    let ih = least-at n (λ k. test (suc k)) q (omega arith) e (λ k l. below (suc k) (omega arith)) in
    rw (below zero (omega arith), ih) refl

pub none_below-some : (n : ℕ) (test : ℕ → Bool) (q : ℕ) → q < n → test q ≡ true → none_below n test ≡ false
none_below-some n test q h e = false_from_ne_true (none_below n test) (λ none. none_below-at n test q none h e)

-- if the test holds for some member, that member has a position
any_at : {X : Type 0} (t : X → Bool) (xs : List X) (d : X) → list_any t xs ≡ true → (k : ℕ) × (k < length xs) × (t (get_or xs k d) ≡ true)
any_at t [] d e = absurd (false≢true e)
any_at t (x ∷ xs) d e = elim (or_cases (t x) (list_any t xs) e) [
  | inl here ↦ (0, omega arith, here)
  | inr later ↦ (let w = any_at t xs d later in (suc w.0, omega (arith, w.1), w.2))
]

-- the test holds for no member
pub none_below-any : {X : Type 0} (t : X → Bool) (xs : List X) (n : ℕ) (f : ℕ → X) → length xs ≡ n → Lists xs n f → not (list_any t xs) ≡ none_below n (λ q. t (f q))
none_below-any t xs n f len lists = elim (cases_Bool (list_any t xs)) [
  | inl e ↦
      (let w = any_at t xs (f 0) e in
      let l : w.0 < n = omega (arith, w.1, len) in
      ap not e ∙ sym (none_below-some n (λ q. t (f q)) w.0 l (ap t (sym (lists w.0 (f 0) l)) ∙ w.2)))
  | inr e ↦
      (ap not e ∙ sym (none_below-from n (λ q. t (f q))
      (λ k l. false_from_ne_true (t (f k)) (λ h. let k' : k < length xs = omega (arith, len) in
      true≢false (sym (list_any_at t xs k (f k) k' (ap t (lists k (f k) l) ∙ h)) ∙ e)))))
]
