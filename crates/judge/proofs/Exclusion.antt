-- k-exclusion: counts of the processes inside, and the case of one.
use Rattle.std.proofs.Common.{◌≡◌, ℕ, zero, suc, ◌+◌, ◌<◌, Bool, true, false, nat_lt, ◌==◌, if◌then◌else◌, List, [], ◌∷◌, length, count_by, refl, sym, ◌∙◌, ap, subst, inl, inr, arith, ltb-true, eq-eqb, eqb-true, ne_eqb}
use Rattle.judge.proofs.Common.{cases_Bool, eqb-false, false_from_ne_true, Fault, OutOfPlace, TwoInside, NotReentered, Overtaken, Outer, Begin, Ready, Enter, Crash, Reenter, Leave, Quit}
use Rattle.judge.proofs.Common.{Abstract, is_ready, is_inside, is_dead_in, least_below, none_below, AllHold, first_fault, lock_doer, abstract_after, Agree, LockAllows, Lists, count_below, count_inside, count_dead_in, entry_needs, exclusion_row}
use Rattle.judge.proofs.Agreement.{row-agree, least-agree, done-agree}
use Rattle.judge.proofs.Counts.{one_if, count_cons}
use Rattle.rmecore.specs.AbstractLock.{row}

-- a count by the numbers below n is that of the list of their values
pub count_below-by : {X : Type 0} (t : X → Bool) (xs : List X) (n : ℕ) (f : ℕ → X) → length xs ≡ n → Lists xs n f → count_by t xs ≡ count_below n (λ q. t (f q))
count_below-by t [] zero f len lists = refl
count_below-by t [] (suc n) f len lists = absurd (omega (arith, len))
count_below-by t (x ∷ xs) zero f len lists = absurd (omega (arith, len))
count_below-by t (x ∷ xs) (suc n) f len lists =
    let here : x ≡ f 0 = lists 0 x (omega arith) in
    let rest = count_below-by t xs n (λ q. f (suc q)) (omega (arith, len)) (λ k d l. lists (suc k) d (omega arith)) in
    count_cons t x xs ∙ (ap (λ y. one_if (t y) + count_by t xs) here ∙ ap (λ c. one_if (t (f 0)) + c) rest)

-- counts of tests that agree below n
count-agree : (n : ℕ) (t u : ℕ → Bool) → ((k : ℕ) → k < n → t k ≡ u k) → count_below n t ≡ count_below n u
count-agree zero t u same = refl
count-agree (suc n) t u same =
    ap (λ b. (if b then 1 else 0) + count_below n (λ k. t (suc k))) (same 0 (omega arith))
    ∙ ap (λ c. (if u 0 then 1 else 0) + c) (count-agree n (λ k. t (suc k)) (λ k. u (suc k)) (λ k l. same (suc k) (omega arith)))

-- two abstract locks that agree on the processes below n have the same needs of an Enter
entry-agree : (k n : ℕ) (a b : Abstract) (p : ℕ) → p < n → Agree n a b → entry_needs k n a p ≡ entry_needs k n b p
entry-agree k n a b p l h =
    let ready = ap is_ready (h.phases p l) in
    let inside = count-agree n (λ q. is_inside (a.phase q)) (λ q. is_inside (b.phase q)) (λ q m. ap is_inside (h.phases q m)) in
    let dead = count-agree n (λ q. is_dead_in (a.phase q)) (λ q. is_dead_in (b.phase q)) (λ q m. ap is_dead_in (h.phases q m)) in
    let ahead = least-agree n (a.ahead p) (b.ahead p) (λ q m. h.ahead p q l m) in
    λ w.
    (ready w, OutOfPlace)
    ∷ (nat_lt (inside w) k, TwoInside)
    ∷ (nat_lt (inside w + dead w) k, NotReentered)
    ∷ (ahead w == n, Overtaken p (ahead w))
    ∷ []

pub exclusion-agree : (k n : ℕ) (a b : Abstract) (d : Outer) → lock_doer d < n → Agree n a b → exclusion_row k n a d ≡ exclusion_row k n b d
exclusion-agree (suc zero) n a b d l h = row-agree n a b d l h
exclusion-agree zero n a b (Enter p) l h = entry-agree zero n a b p l h
exclusion-agree (suc (suc k)) n a b (Enter p) l h = entry-agree (suc (suc k)) n a b p l h
exclusion-agree zero n a b (Begin p) l h = row-agree n a b (Begin p) l h
exclusion-agree zero n a b (Ready p) l h = row-agree n a b (Ready p) l h
exclusion-agree zero n a b (Crash p) l h = row-agree n a b (Crash p) l h
exclusion-agree zero n a b (Reenter p) l h = row-agree n a b (Reenter p) l h
exclusion-agree zero n a b (Leave p) l h = row-agree n a b (Leave p) l h
exclusion-agree zero n a b (Quit p) l h = row-agree n a b (Quit p) l h
exclusion-agree (suc (suc k)) n a b (Begin p) l h = row-agree n a b (Begin p) l h
exclusion-agree (suc (suc k)) n a b (Ready p) l h = row-agree n a b (Ready p) l h
exclusion-agree (suc (suc k)) n a b (Crash p) l h = row-agree n a b (Crash p) l h
exclusion-agree (suc (suc k)) n a b (Reenter p) l h = row-agree n a b (Reenter p) l h
exclusion-agree (suc (suc k)) n a b (Leave p) l h = row-agree n a b (Leave p) l h
exclusion-agree (suc (suc k)) n a b (Quit p) l h = row-agree n a b (Quit p) l h

pub LockAllows-agree : (k n : ℕ) (a b : Abstract) (ds : List Outer) → Agree n a b → LockAllows k n a ds → LockAllows k n b ds
LockAllows-agree k n a b [] h ok = tt
LockAllows-agree k n a b (d ∷ ds) h ok =
    let l = ltb-true (lock_doer d) n ok.0.0 in
    ((ok.0.0, subst AllHold (exclusion-agree k n a b d l h) ok.0.1), LockAllows-agree k n (abstract_after a d) (abstract_after b d) ds (done-agree n a b d l h) ok.1)

-- equal numbers have equal successors, and others do not
suc-eq : (x y : ℕ) → (x == y) ≡ (suc x == suc y)
suc-eq x y = elim (cases_Bool (x == y)) [
  | inl e ↦ e ∙ sym (eq-eqb (suc x) (suc y) (ap suc (eqb-true x y e)))
  | inr e ↦ e ∙ sym (ne_eqb (suc x) (suc y) (λ f. let ne = eqb-false x y e in ne (omega (arith, f))))
]

-- fewer than one is none
fewer-none : (n : ℕ) (test : ℕ → Bool) → nat_lt (count_below n test) 1 ≡ none_below n test
fewer-none zero test = refl
fewer-none (suc n) test =
    let c = count_below n (λ k. test (suc k)) in
    elim (cases_Bool (test zero)) [
      | inl on ↦ rw on (false_from_ne_true (nat_lt (1 + c) 1) (λ e. let less = ltb-true (1 + c) 1 e in omega arith) ∙ sym (ne_eqb 0 (suc n) (λ e. omega (arith, e))))
      | inr off ↦
          (let same : 0 + c ≡ c = omega arith in
          rw off (ap (λ x. nat_lt x 1) same ∙ (fewer-none n (λ k. test (suc k)) ∙ suc-eq (least_below n (λ k. test (suc k))) n)))
    ]

-- the fault of an Enter, by the two counts or by whether there are any
one-fault : (r i d o : Bool) (c e : ℕ) (f : Fault) → nat_lt c 1 ≡ i → nat_lt e 1 ≡ d
    → first_fault ((r, OutOfPlace) ∷ (nat_lt c 1, TwoInside) ∷ (nat_lt (c + e) 1, NotReentered) ∷ (o, f) ∷ [])
    ≡ first_fault ((r, OutOfPlace) ∷ (i, TwoInside) ∷ (d, NotReentered) ∷ (o, f) ∷ [])
one-fault false i d o c e f is it = refl
one-fault true false d o c e f is it = rw is refl
one-fault true true d o zero e f is it =
    let none : zero + e ≡ e = omega arith in
    ap (λ b. first_fault ((b, NotReentered) ∷ (o, f) ∷ [])) (ap (λ x. nat_lt x 1) none ∙ it)
one-fault true true d o (suc c) e f is it = absurd (omega (arith, ltb-true (suc c) 1 is))

pub entry-one : (n : ℕ) (a : Abstract) (p : ℕ) → first_fault (entry_needs 1 n a p) ≡ first_fault (row n a (Enter p))
entry-one n a p =
    one-fault (is_ready (a.phase p)) _ _ _ (count_inside n a) (count_dead_in n a) _
    (fewer-none n (λ q. is_inside (a.phase q))) (fewer-none n (λ q. is_dead_in (a.phase q)))

pub entry-fault : (k n : ℕ) (a : Abstract) (p : ℕ) → first_fault (entry_needs k n a p) ≡ first_fault (exclusion_row k n a (Enter p))
entry-fault zero n a p = refl
entry-fault (suc zero) n a p = entry-one n a p
entry-fault (suc (suc k)) n a p = refl
