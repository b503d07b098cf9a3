-- One step of the judge: the needs of an allowed deed, and the phases that it keeps.
use Rattle.std.proofs.Common.{◌≡◌, ℕ, ◌<◌, Bool, true, false, ◌||◌, ◌==◌, cond, List, [], ◌∷◌, Option, Some, None, Result, Ok, refl, ◌⊎◌, sym, ◌∙◌, ap, subst, inl, inr, arith, true≢false, eqb-true, ltb-true}
use Rattle.judge.proofs.Common.{cases_eq, eqb-false, cond_both, Fault, Begin, Ready, Enter, Crash, Reenter, Leave, Quit, Phase, is_out, is_door, is_ready, is_inside, is_dead_in, phase_after_crash, AllHold}
use Rattle.judge.proofs.Common.{least_below, put, first_fault, none_below, Deed, doer, and_then, judged_all, Leads, IsEntryOf, IsExitOf, IsEndOf, IsGoneOf, State, needs, after, unless}
use Rattle.redomail.specs.declared.deed.Deed.TheVariants as deed
use Rattle.rmecore.specs.declared.phase.Phase.TheVariants as phase
use Rattle.rmecore.proofs.Allowing.{least-le}

-- each of these deeds is allowed
abbrev pub Allowed : State → List Deed → Type 0
Allowed s [] = Unit {0}
Allowed s (d ∷ ds) = AllHold (needs s d) × Allowed (after s d) ds

holds_first : (b : Bool) (fault : Fault) (rest : Option Fault) → cond b rest (Some fault) ≡ None → (b ≡ true) × (rest ≡ None)
holds_first true fault rest e = (refl, e)
holds_first false fault rest e = cc

pub AllHold-from_none : (ns : List (Bool × Fault)) → first_fault ns ≡ None → AllHold ns
AllHold-from_none [] e = tt
AllHold-from_none (n ∷ ns) e =
    let h = holds_first n.0 n.1 (first_fault ns) e in (h.0, AllHold-from_none ns h.1)

step_of : (o : Option Fault) (s t : State) (next : State → Result State Fault) → and_then (unless o s) next ≡ Ok t → (o ≡ None) × (next s ≡ Ok t)
step_of None s t next e = (refl, e)
step_of (Some fault) s t next e = cc

pub Allowed-from_leads : (s t : State) (ds : List Deed) → Leads s ds t → Allowed s ds
Allowed-from_leads s t [] e = tt
Allowed-from_leads s t (d ∷ ds) e =
    let h = step_of (first_fault (needs s d)) (after s d) t (λ u. judged_all u ds) e in
    (AllHold-from_none (needs s d) h.0, Allowed-from_leads (after s d) t ds h.1)

-- a changed function, at the position of the change and elsewhere
pub put_cases : {A : Type 0} (f : ℕ → A) (p q : ℕ) (x : A) (P : A → Type 0) → (q ≡ p → P x) → ((q ≡ p → ⊥) → P (f q)) → P (put f p x q)
put_cases f p q x P here other =
    cond_both (q == p) x (f q) P (λ e. here (eqb-true q p e)) (λ e. other (eqb-false q p e))

pub none_below-at : (n : ℕ) (test : ℕ → Bool) (k : ℕ) → none_below n test ≡ true → k < n → test k ≡ true → ⊥
none_below-at n test k none h e =
    let below = least-le n test k h e in
    let same = eqb-true (least_below n test) n none in
    omega arith

pub procs-after : (s : State) (d : Deed) → (after s d).procs ≡ s.procs
procs-after s (deed.Outer (Begin p)) = refl
procs-after s _ = refl

pub doer_below : (s : State) (d : Deed) → AllHold (needs s d) → doer d < s.procs
doer_below s d h = ltb-true (doer d) s.procs h.0

-- two phases that a test distinguishes
apart : (t : Phase → Bool) (x y : Phase) → t x ≡ true → t y ≡ false → x ≡ y → ⊥
apart t x y here other e = true≢false (sym here ∙ (ap t e ∙ other))

-- in the doorway, or ready
abbrev is_trying : Phase → Bool
is_trying x = is_door x || is_ready x

-- a process stays at y while another moves. The test shows that the other is not at y
stays : (f : ℕ → Phase) (q p : ℕ) (x y : Phase) (t : Phase → Bool) → f p ≡ y → t (f q) ≡ true → t y ≡ false → put f q x p ≡ y
stays f q p x y t e here other =
    put_cases f q p x (λ z. z ≡ y) (λ same. absurd (apart t (f q) y here other (sym (ap f same) ∙ e))) (λ _. e)

-- a process stays at y while another moves
stays_at : (f : ℕ → Phase) (q p : ℕ) (x y : Phase) → f p ≡ y → (p ≡ q → x ≡ y) → put f q x p ≡ y
stays_at f q p x y e same = put_cases f q p x (λ z. z ≡ y) same (λ _. e)

-- the state, of mutual exclusion
abbrev pub with_one_inside : State → State
with_one_inside s = record s { most_inside = 1 }

-- A process that is inside stays inside until it leaves or crashes.
pub inside_stays : (s : State) (d : Deed) (p : ℕ) → AllHold (needs (with_one_inside s) d) → s.lock.phase p ≡ phase.Inside → (IsExitOf p d → ⊥) → (after s d).lock.phase p ≡ phase.Inside
inside_stays s (deed.Outer (Begin q)) p h e not_it = stays s.lock.phase q p _ _ is_out e h.1.0 refl
inside_stays s (deed.Outer (Ready q)) p h e not_it = stays s.lock.phase q p _ _ is_door e h.1.0 refl
inside_stays s (deed.Outer (Enter q)) p h e not_it = stays s.lock.phase q p _ _ is_ready e h.1.0 refl
inside_stays s (deed.Outer (Crash q)) p h e not_it =
    stays_at s.lock.phase q p _ _ e (λ same. absurd (not_it (inr (ap (λ k. deed.Outer (Crash k)) (sym same)))))
inside_stays s (deed.Outer (Reenter q)) p h e not_it = stays s.lock.phase q p _ _ is_dead_in e h.1.0 refl
inside_stays s (deed.Outer (Leave q)) p h e not_it =
    stays_at s.lock.phase q p _ _ e (λ same. absurd (not_it (inl (ap (λ k. deed.Outer (Leave k)) (sym same)))))
inside_stays s (deed.Outer (Quit q)) p h e not_it = stays s.lock.phase q p _ _ is_trying e h.1.0 refl
inside_stays s _ p h e not_it = e

-- A process that is dead in stays so until it enters again.
pub dead_stays : (s : State) (d : Deed) (p : ℕ) → AllHold (needs (with_one_inside s) d) → s.lock.phase p ≡ phase.DeadIn → (IsEntryOf p d → ⊥) → (after s d).lock.phase p ≡ phase.DeadIn
dead_stays s (deed.Outer (Begin q)) p h e not_it = stays s.lock.phase q p _ _ is_out e h.1.0 refl
dead_stays s (deed.Outer (Ready q)) p h e not_it = stays s.lock.phase q p _ _ is_door e h.1.0 refl
dead_stays s (deed.Outer (Enter q)) p h e not_it = stays s.lock.phase q p _ _ is_ready e h.1.0 refl
dead_stays s (deed.Outer (Crash q)) p h e not_it =
    stays_at s.lock.phase q p _ _ e (λ same. ap phase_after_crash (sym (ap s.lock.phase same) ∙ e))
dead_stays s (deed.Outer (Reenter q)) p h e not_it =
    stays_at s.lock.phase q p _ _ e (λ same. absurd (not_it (inr (ap (λ k. deed.Outer (Reenter k)) (sym same)))))
dead_stays s (deed.Outer (Leave q)) p h e not_it = stays s.lock.phase q p _ _ is_inside e h.1.0 refl
dead_stays s (deed.Outer (Quit q)) p h e not_it = stays s.lock.phase q p _ _ is_trying e h.1.0 refl
dead_stays s _ p h e not_it = e

-- A process that is ready stays so until it enters or quits.
pub ready_stays : (s : State) (d : Deed) (p : ℕ) → AllHold (needs (with_one_inside s) d) → s.lock.phase p ≡ phase.Ready → (IsGoneOf p d → ⊥) → (after s d).lock.phase p ≡ phase.Ready
ready_stays s (deed.Outer (Begin q)) p h e not_it = stays s.lock.phase q p _ _ is_out e h.1.0 refl
ready_stays s (deed.Outer (Ready q)) p h e not_it = stays s.lock.phase q p _ _ is_door e h.1.0 refl
ready_stays s (deed.Outer (Enter q)) p h e not_it =
    stays_at s.lock.phase q p _ _ e (λ same. absurd (not_it (inl (ap (λ k. deed.Outer (Enter k)) (sym same)))))
ready_stays s (deed.Outer (Crash q)) p h e not_it =
    stays_at s.lock.phase q p _ _ e (λ same. ap phase_after_crash (sym (ap s.lock.phase same) ∙ e))
ready_stays s (deed.Outer (Reenter q)) p h e not_it = stays s.lock.phase q p _ _ is_dead_in e h.1.0 refl
ready_stays s (deed.Outer (Leave q)) p h e not_it = stays s.lock.phase q p _ _ is_inside e h.1.0 refl
ready_stays s (deed.Outer (Quit q)) p h e not_it =
    stays_at s.lock.phase q p _ _ e (λ same. absurd (not_it (inr (ap (λ k. deed.Outer (Quit k)) (sym same)))))
ready_stays s _ p h e not_it = e

-- the process decides which deed of one kind it is
same_or_not : (make : ℕ → Deed) → ((p q : ℕ) → make q ≡ make p → q ≡ p) → (p q : ℕ) → (make q ≡ make p) ⊎ (make q ≡ make p → ⊥)
same_or_not make own p q = elim (cases_eq q p) [
  | inl same ↦ inl (ap make same)
  | inr other ↦ inr (λ e. other (own p q e))
]

own_enter : (p q : ℕ) → ◌≡◌ {A = Deed} (deed.Outer (Enter q)) (deed.Outer (Enter p)) → q ≡ p
own_enter p q e = cc

own_quit : (p q : ℕ) → ◌≡◌ {A = Deed} (deed.Outer (Quit q)) (deed.Outer (Quit p)) → q ≡ p
own_quit p q e = cc

-- a deed that is neither of two
neither : (d e f : Deed) → (d ≡ e → ⊥) → (d ≡ f → ⊥) → (d ≡ e) ⊎ (d ≡ f) → ⊥
neither d e f a b (inl h) = a h
neither d e f a b (inr h) = b h

-- whether the deed is Enter p or Quit p
pub is_gone : (p : ℕ) (d : Deed) → IsGoneOf p d ⊎ (IsGoneOf p d → ⊥)
is_gone p (deed.Outer (Enter q)) =
    elim (same_or_not (λ k. deed.Outer (Enter k)) own_enter p q) [
      | inl same ↦ inl (inl same)
      | inr other ↦ inr (neither _ _ _ other (λ e. cc))
    ]
is_gone p (deed.Outer (Quit q)) =
    elim (same_or_not (λ k. deed.Outer (Quit k)) own_quit p q) [
      | inl same ↦ inl (inr same)
      | inr other ↦ inr (neither _ _ _ (λ e. cc) other)
    ]
is_gone p _ = inr (neither _ _ _ (λ e. cc) (λ e. cc))

-- a ready process can't leave, and its quit ends its super-passage
pub is_end_while_ready : (s : State) (d : Deed) (p : ℕ) → AllHold (needs (with_one_inside s) d) → s.lock.phase p ≡ phase.Ready → (IsGoneOf p d → ⊥) → IsEndOf p d → ⊥
is_end_while_ready s d p h e not_it (inl leaves) =
    let P : Deed → Type 0 = λ k. AllHold (needs (with_one_inside s) k) in
    let g : AllHold (needs (with_one_inside s) (deed.Outer (Leave p))) = subst P leaves h in
    apart is_inside (s.lock.phase p) phase.Ready g.1.0 refl e
is_end_while_ready s d p h e not_it (inr quits) = not_it (inr quits)
