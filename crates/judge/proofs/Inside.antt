-- No process enters while another is inside, and after a crash inside only the crashed process enters.
use Rattle.std.proofs.Common.{◌≡◌, ℕ, zero, suc, ◌<◌, true, false, List, [], ◌∷◌, refl, ◌⊎◌, sym, ◌∙◌, ap, subst, inl, inr, arith, true≢false}
use Rattle.judge.proofs.Common.{Begin, Ready, Enter, Crash, Reenter, Leave, Quit, Phase, is_inside, is_dead_in, phase_after_crash, AllHold, put, none_below, put_same, Deed, NoneBefore, IsEntryOf, IsExitOf}
use Rattle.judge.proofs.Common.{IsEntry, HasDeedAt, IsDeedAt, NoneBetween, NoTwoInside, DeadReenters, State, needs, after, empty_state}
use Rattle.redomail.specs.declared.deed.Deed.TheVariants as deed
use Rattle.rmecore.specs.declared.phase.Phase.TheVariants as phase
use Rattle.judge.proofs.Steps.{Allowed, with_one_inside, put_cases, none_below-at, procs-after, doer_below, inside_stays, dead_stays}

-- inside, alive or crashed
abbrev pub Holds : Phase → Type 0
Holds x = (is_inside x ≡ true) ⊎ (is_dead_in x ≡ true)

-- no two processes hold the lock
abbrev pub Sole : State → Type 0
Sole s = (p q : ℕ) → p < s.procs → q < s.procs → Holds (s.lock.phase p) → Holds (s.lock.phase q) → p ≡ q

-- a process that holds the lock after a move held it before
held : (f : ℕ → Phase) (q : ℕ) (x : Phase) → (Holds x → Holds (f q)) → (p : ℕ) → Holds (put f q x p) → Holds (f p)
held f q x back p =
    put_cases f q p x (λ y. Holds y → Holds (f p)) (λ same h. subst (λ k. Holds (f k)) (sym same) (back h)) (λ _ h. h)

holds_after_crash : (x : Phase) → Holds (phase_after_crash x) → Holds x
holds_after_crash phase.Inside h = inl refl
holds_after_crash _ h = h

none_holds : (x : Phase) → is_inside x ≡ false → is_dead_in x ≡ false → Holds x → ⊥
none_holds x i d (inl e) = true≢false (sym e ∙ i)
none_holds x i d (inr e) = true≢false (sym e ∙ d)

-- processes that held the lock before still hold it
kept : (s : State) (f : ℕ → Phase) → ((p : ℕ) → Holds (f p) → Holds (s.lock.phase p)) → Sole s → (p q : ℕ) → p < s.procs → q < s.procs → Holds (f p) → Holds (f q) → p ≡ q
kept s f back sole p q lp lq hp hq = sole p q lp lq (back p hp) (back q hq)

-- if no process is in or dead in, the one that enters is the only one
enters_alone : (s : State) (r : ℕ) → none_below s.procs (λ q. is_inside (s.lock.phase q)) ≡ true → none_below s.procs (λ q. is_dead_in (s.lock.phase q)) ≡ true → (p : ℕ) → p < s.procs → Holds (put s.lock.phase r phase.Inside p) → p ≡ r
enters_alone s r alive dead p lp =
    put_cases s.lock.phase r p phase.Inside (λ y. Holds y → p ≡ r) (λ same _. same)
    (λ _ h.
    elim h [
      | inl e ↦ absurd (none_below-at s.procs (λ q. is_inside (s.lock.phase q)) p alive lp e)
      | inr e ↦ absurd (none_below-at s.procs (λ q. is_dead_in (s.lock.phase q)) p dead lp e)
    ])

pub Sole-after : (s : State) (d : Deed) → AllHold (needs (with_one_inside s) d) → Sole s → Sole (after s d)
Sole-after s (deed.Outer (Begin r)) h sole =
    kept s _ (held s.lock.phase r phase.Door (λ k. absurd (none_holds phase.Door refl refl k))) sole
Sole-after s (deed.Outer (Ready r)) h sole =
    kept s _ (held s.lock.phase r phase.Ready (λ k. absurd (none_holds phase.Ready refl refl k))) sole
Sole-after s (deed.Outer (Enter r)) h sole = λ p q lp lq hp hq.
    enters_alone s r h.1.1.0 h.1.1.1.0 p lp hp ∙ sym (enters_alone s r h.1.1.0 h.1.1.1.0 q lq hq)
Sole-after s (deed.Outer (Crash r)) h sole = kept s _ (held s.lock.phase r _ (holds_after_crash (s.lock.phase r))) sole
Sole-after s (deed.Outer (Reenter r)) h sole = kept s _ (held s.lock.phase r phase.Inside (λ _. inr h.1.0)) sole
Sole-after s (deed.Outer (Leave r)) h sole =
    kept s _ (held s.lock.phase r phase.Out (λ k. absurd (none_holds phase.Out refl refl k))) sole
Sole-after s (deed.Outer (Quit r)) h sole =
    kept s _ (held s.lock.phase r phase.Out (λ k. absurd (none_holds phase.Out refl refl k))) sole
Sole-after s _ h sole = sole

pub Sole-empty : (procs cap : ℕ) → Sole (empty_state procs cap)
Sole-empty procs cap p q lp lq hp hq = absurd (none_holds phase.Out refl refl hp)

-- after an entry its process is inside
pub entered : (s : State) (d : Deed) (p : ℕ) → AllHold (needs (with_one_inside s) d) → IsEntryOf p d → ((after s d).lock.phase p ≡ phase.Inside) × (p < (after s d).procs)
entered s d p h (inl e) =
    let P : Deed → Type 0 = λ k. AllHold (needs (with_one_inside s) k) → ((after s k).lock.phase p ≡ phase.Inside) × (p < (after s k).procs) in
    subst P (sym e) (λ k. (put_same s.lock.phase p phase.Inside, doer_below (with_one_inside s) (deed.Outer (Enter p)) k)) h
entered s d p h (inr e) =
    let P : Deed → Type 0 = λ k. AllHold (needs (with_one_inside s) k) → ((after s k).lock.phase p ≡ phase.Inside) × (p < (after s k).procs) in
    subst P (sym e) (λ k. (put_same s.lock.phase p phase.Inside, doer_below (with_one_inside s) (deed.Outer (Reenter p)) k)) h

-- Enter needs that no process holds the lock
no_enter : (s : State) (p q : ℕ) → AllHold (needs (with_one_inside s) (deed.Outer (Enter q))) → p < s.procs → Holds (s.lock.phase p) → ⊥
no_enter s p q h lp (inl e) = none_below-at s.procs (λ r. is_inside (s.lock.phase r)) p h.1.1.0 lp e
no_enter s p q h lp (inr e) = none_below-at s.procs (λ r. is_dead_in (s.lock.phase r)) p h.1.1.1.0 lp e

-- while p holds the lock, an entry is the re-entry of p, which is dead in
reenters : (s : State) (d : Deed) (p : ℕ) → Sole s → AllHold (needs (with_one_inside s) d) → p < s.procs → Holds (s.lock.phase p) → IsEntry d → (d ≡ deed.Outer (Reenter p)) × (is_dead_in (s.lock.phase p) ≡ true)
reenters s d p sole h lp holds (q, inl e) =
    let P : Deed → Type 0 = λ k. AllHold (needs (with_one_inside s) k) in
    absurd (no_enter s p q (subst P e h) lp holds)
reenters s d p sole h lp holds (q, inr e) =
    let P : Deed → Type 0 = λ k. AllHold (needs (with_one_inside s) k) in
    let g : AllHold (needs (with_one_inside s) (deed.Outer (Reenter q))) = subst P e h in
    let same : q ≡ p = sole q p (doer_below (with_one_inside s) (deed.Outer (Reenter q)) g) lp (inr g.1.0) holds in
    (e ∙ ap (λ k. deed.Outer (Reenter k)) same, subst (λ k. is_dead_in (s.lock.phase k) ≡ true) same g.1.0)

-- while p is inside and doesn't leave or crash, no process enters
none_enters : (s : State) (p : ℕ) (ds : List Deed) (j : ℕ) → Sole s → p < s.procs → s.lock.phase p ≡ phase.Inside → Allowed (with_one_inside s) ds → NoneBefore ds j (IsExitOf p) → HasDeedAt ds j IsEntry → ⊥
none_enters s p [] j sole lp e ok none here = here
none_enters s p (d ∷ ds) zero sole lp e ok none here =
    let at = reenters s d p sole ok.0 lp (inl (ap is_inside e)) here in
    true≢false (sym at.1 ∙ ap is_dead_in e)
none_enters s p (d ∷ ds) (suc j) sole lp e ok none here =
    none_enters (after s d) p ds j (Sole-after s d ok.0 sole) (rw (procs-after s d) lp)
    (inside_stays s d p ok.0 e (none zero (omega arith))) ok.1 (λ k l. none (suc k) (omega arith)) here

pub NoTwoInside-from_allowed : (s : State) (ds : List Deed) → Sole s → Allowed (with_one_inside s) ds → NoTwoInside ds
NoTwoInside-from_allowed s [] sole ok p i j entry l none here = here
NoTwoInside-from_allowed s (d ∷ ds) sole ok p i zero entry l none here = absurd (omega arith)
NoTwoInside-from_allowed s (d ∷ ds) sole ok p zero (suc j) entry l none here =
    let at = entered s d p ok.0 entry in
    none_enters (after s d) p ds j (Sole-after s d ok.0 sole) at.1 at.0 ok.1 (λ k l. none (suc k) (omega arith) (omega arith)) here
NoTwoInside-from_allowed s (d ∷ ds) sole ok p (suc i) (suc j) entry l none here =
    NoTwoInside-from_allowed (after s d) ds (Sole-after s d ok.0 sole) ok.1 p i j entry (omega arith) (λ k a b. none (suc k) (omega arith) (omega arith)) here

-- while p is dead in, the next entry is its own
pub next_is_own : (s : State) (p : ℕ) (ds : List Deed) (j : ℕ) → Sole s → p < s.procs → s.lock.phase p ≡ phase.DeadIn → Allowed (with_one_inside s) ds → NoneBefore ds j IsEntry → HasDeedAt ds j IsEntry → IsDeedAt ds j (deed.Outer (Reenter p))
next_is_own s p [] j sole lp e ok none here = here
next_is_own s p (d ∷ ds) zero sole lp e ok none here =
    (reenters s d p sole ok.0 lp (inr (ap is_dead_in e)) here).0
next_is_own s p (d ∷ ds) (suc j) sole lp e ok none here =
    next_is_own (after s d) p ds j (Sole-after s d ok.0 sole) (rw (procs-after s d) lp)
    (dead_stays s d p ok.0 e (λ k. none zero (omega arith) (p, k))) ok.1 (λ k l. none (suc k) (omega arith)) here

-- p is inside and crashes at position c
dead_after : (s : State) (p : ℕ) (ds : List Deed) (c j : ℕ) → Sole s → p < s.procs → s.lock.phase p ≡ phase.Inside → Allowed (with_one_inside s) ds → NoneBefore ds c (IsExitOf p) → IsDeedAt ds c (deed.Outer (Crash p))
    → c < j → NoneBetween ds c j IsEntry → HasDeedAt ds j IsEntry → IsDeedAt ds j (deed.Outer (Reenter p))
dead_after s p [] c j sole lp e ok none crash l silent here = here
dead_after s p (d ∷ ds) c zero sole lp e ok none crash l silent here = absurd (omega arith)
dead_after s p (d ∷ ds) zero (suc j) sole lp e ok none crash l silent here =
    let P : Deed → Type 0 = λ k. (after s k).lock.phase p ≡ phase.DeadIn in
    let dead : (after s d).lock.phase p ≡ phase.DeadIn = subst P (sym crash) (put_same s.lock.phase p (phase_after_crash (s.lock.phase p)) ∙ ap phase_after_crash e) in
    next_is_own (after s d) p ds j (Sole-after s d ok.0 sole) (rw (procs-after s d) lp) dead ok.1
    (λ k l. silent (suc k) (omega arith) (omega arith)) here
dead_after s p (d ∷ ds) (suc c) (suc j) sole lp e ok none crash l silent here =
    dead_after (after s d) p ds c j (Sole-after s d ok.0 sole) (rw (procs-after s d) lp)
    (inside_stays s d p ok.0 e (none zero (omega arith))) ok.1 (λ k l. none (suc k) (omega arith)) crash (omega arith)
    (λ k a b. silent (suc k) (omega arith) (omega arith)) here

pub DeadReenters-from_allowed : (s : State) (ds : List Deed) → Sole s → Allowed (with_one_inside s) ds → DeadReenters ds
DeadReenters-from_allowed s [] sole ok p i c j entry l none crash m silent here = here
DeadReenters-from_allowed s (d ∷ ds) sole ok p i zero j entry l none crash m silent here = absurd (omega arith)
DeadReenters-from_allowed s (d ∷ ds) sole ok p i (suc c) zero entry l none crash m silent here = absurd (omega arith)
DeadReenters-from_allowed s (d ∷ ds) sole ok p zero (suc c) (suc j) entry l none crash m silent here =
    let at = entered s d p ok.0 entry in
    dead_after (after s d) p ds c j (Sole-after s d ok.0 sole) at.1 at.0 ok.1 (λ k l. none (suc k) (omega arith) (omega arith))
    crash (omega arith) (λ k a b. silent (suc k) (omega arith) (omega arith)) here
DeadReenters-from_allowed s (d ∷ ds) sole ok p (suc i) (suc c) (suc j) entry l none crash m silent here =
    DeadReenters-from_allowed (after s d) ds (Sole-after s d ok.0 sole) ok.1 p i c j entry (omega arith)
    (λ k a b. none (suc k) (omega arith) (omega arith)) crash (omega arith) (λ k a b. silent (suc k) (omega arith) (omega arith)) here
