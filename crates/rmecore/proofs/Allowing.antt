-- The needs of a deed as facts about the abstract lock, in both directions.
use Rattle.std.proofs.Common.{◌≡◌, ◌≢◌, ℕ, zero, suc, ◌<◌, Bool, true, false, ◌==◌, ◌⊎◌, refl, ap, inl, inr, arith, eq-eqb, eqb-true, lt-ltb, ltb-true, ◌≤◌}
use Rattle.rmecore.proofs.Common.{cases_Bool, or_cases, false_from_ne_true, cond_both, Outer, Begin, Enter, Crash, Reenter, Leave, Quit, Phase, Out, AtDoor as Door, Ready, Within as Inside, DeadIn, Abstract}
use Rattle.rmecore.proofs.Common.{is_out, is_door, is_ready, is_inside, is_dead_in, needs, AllHold, least_below, none_below, put}
use Rattle.rmecore.specs.declared.outer.Outer.TheVariants.{Ready as IsReady}

-- what a deed needs, as facts
abbrev pub Allows : ℕ → Abstract → Outer → Type 0
Allows n a (Begin p) = (p < n) × (a.phase p ≡ Out)
Allows n a (IsReady p) = (p < n) × (a.phase p ≡ Door)
Allows n a (Enter p) =
    (p < n) × (a.phase p ≡ Ready) × ((q : ℕ) → q < n → a.phase q ≢ Inside) × ((q : ℕ) → q < n → a.phase q ≢ DeadIn) × ((q : ℕ) → q < n → a.ahead p q ≡ false)
Allows n a (Crash p) = p < n
Allows n a (Reenter p) = (p < n) × (a.phase p ≡ DeadIn)
Allows n a (Leave p) = (p < n) × (a.phase p ≡ Inside)
Allows n a (Quit p) = (p < n) × ((a.phase p ≡ Door) ⊎ (a.phase p ≡ Ready))

pub least-none : (n : ℕ) (test : ℕ → Bool) → ((q : ℕ) → q < n → test q ≡ false) → least_below n test ≡ n
least-none zero test none = refl
least-none (suc n) test none = rw (none 0 (omega arith)) (ap suc (least-none n (λ k. test (suc k)) (λ q h. none (suc q) (omega arith))))

pub none_below-from : (n : ℕ) (test : ℕ → Bool) → ((q : ℕ) → q < n → test q ≡ false) → none_below n test ≡ true
none_below-from n test none = eq-eqb _ _ (least-none n test none)

is_out-from : (phase : Phase) → is_out phase ≡ true → phase ≡ Out
is_out-from Out e = refl
is_out-from _ e = cc

is_door-from : (phase : Phase) → is_door phase ≡ true → phase ≡ Door
is_door-from Door e = refl
is_door-from _ e = cc

is_ready-from : (phase : Phase) → is_ready phase ≡ true → phase ≡ Ready
is_ready-from Ready e = refl
is_ready-from _ e = cc

is_inside-from : (phase : Phase) → is_inside phase ≡ true → phase ≡ Inside
is_inside-from Inside e = refl
is_inside-from _ e = cc

is_dead_in-from : (phase : Phase) → is_dead_in phase ≡ true → phase ≡ DeadIn
is_dead_in-from DeadIn e = refl
is_dead_in-from _ e = cc

pub needs_hold : (n : ℕ) (a : Abstract) (d : Outer) → Allows n a d → AllHold (needs n a d)
needs_hold n a (Begin p) h = (lt-ltb p n h.0, (ap is_out h.1, tt))
needs_hold n a (IsReady p) h = (lt-ltb p n h.0, (ap is_door h.1, tt))
needs_hold n a (Enter p) h =
    (lt-ltb p n h.0, (ap is_ready h.1, (none_below-from n _ (λ q less. false_from_ne_true _ (λ on. h.2 q less (is_inside-from _ on))), (none_below-from n _ (λ q less. false_from_ne_true _ (λ on. h.3 q less (is_dead_in-from _ on))), (none_below-from n (a.ahead p) h.4, tt)))))
needs_hold n a (Crash p) h = (lt-ltb p n h, tt)
needs_hold n a (Reenter p) h = (lt-ltb p n h.0, (ap is_dead_in h.1, tt))
needs_hold n a (Leave p) h = (lt-ltb p n h.0, (ap is_inside h.1, tt))
needs_hold n a (Quit p) h = (lt-ltb p n h.0, (elim h.1 [ inl e ↦ rw e refl | inr e ↦ rw e refl ], tt))

-- the other direction

-- the least number with the test is at most every number with the test
pub least-le : (n : ℕ) (test : ℕ → Bool) (k : ℕ) → k < n → test k ≡ true → least_below n test ≤ k
least-le zero test k h e = absurd (omega arith)
least-le (suc n) test zero h e = rw e (omega arith)
least-le (suc n) test (suc k) h e =
    let ih = least-le n (λ j. test (suc j)) k (omega arith) e in
    cond_both (test zero) 0 (suc (least_below n (λ j. test (suc j)))) (λ x. x ≤ suc k) (λ _. omega arith) (λ _. omega arith)

pub none_below-at : (n : ℕ) (test : ℕ → Bool) → none_below n test ≡ true → (q : ℕ) → q < n → test q ≡ false
none_below-at n test e q h = false_from_ne_true _ (λ on. let low = least-le n test q h on in let all = eqb-true (least_below n test) n e in omega arith)

inside-not : (phase : Phase) → is_inside phase ≡ false → phase ≢ Inside
inside-not phase e is = let f : is_inside phase ≡ true = ap is_inside is in cc

dead-not : (phase : Phase) → is_dead_in phase ≡ false → phase ≢ DeadIn
dead-not phase e is = let f : is_dead_in phase ≡ true = ap is_dead_in is in cc

-- from the needs of a deed to the facts
pub allows_from : (n : ℕ) (a : Abstract) (d : Outer) → AllHold (needs n a d) → Allows n a d
allows_from n a (Begin p) h = (ltb-true p n h.0, is_out-from _ h.1.0)
allows_from n a (IsReady p) h = (ltb-true p n h.0, is_door-from _ h.1.0)
allows_from n a (Enter p) h =
    (ltb-true p n h.0, is_ready-from _ h.1.0, (λ q less. inside-not _ (none_below-at n _ h.1.1.0 q less)), (λ q less. dead-not _ (none_below-at n _ h.1.1.1.0 q less)), none_below-at n (a.ahead p) h.1.1.1.1.0)
allows_from n a (Crash p) h = ltb-true p n h.0
allows_from n a (Reenter p) h = (ltb-true p n h.0, is_dead_in-from _ h.1.0)
allows_from n a (Leave p) h = (ltb-true p n h.0, is_inside-from _ h.1.0)
allows_from n a (Quit p) h = (ltb-true p n h.0, elim (or_cases _ _ h.1.0) [ inl e ↦ inl (is_door-from _ e) | inr e ↦ inr (is_ready-from _ e) ])

-- a process that was taken out of the ahead sets
pub put_false : (f : ℕ → Bool) (p i : ℕ) → put f p false i ≡ true → f i ≡ true
put_false f p i e = elim (cases_Bool (i == p)) [ inl here ↦ (let no : false ≡ true = rw here at e in cc) | inr away ↦ rw away at e ]

pub put_false_self : (f : ℕ → Bool) (p : ℕ) → put f p false p ≡ true → ⊥
put_false_self f p e = let same : (p == p) ≡ true = eq-eqb p p refl in let no : false ≡ true = rw same at e in cc

pub put_false_kept : (f : ℕ → Bool) (p i : ℕ) → f i ≡ false → put f p false i ≡ false
put_false_kept f p i e = elim (cases_Bool (i == p)) [ inl here ↦ rw here refl | inr away ↦ rw away e ]
