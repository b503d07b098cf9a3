-- At most one process is in the section. Only its entry and its exit change which one.
use Rattle.std.proofs.Common.{◌≡◌, ◌≢◌, ℕ, ◌<◌, List, [], ◌∷◌, refl, sym, ◌∙◌, subst, inl, inr}
use Rattle.rmecore.proofs.Common.{cases_eq, Outer, Begin, Enter, Crash, Reenter, Leave, Quit, Phase, Out, AtDoor as Door, Ready, Within as Inside, DeadIn, Abstract, needs, nobody, phase_after_crash, abstract_after}
use Rattle.rmecore.proofs.Common.{Legal, doer, AllHold, put, all_done, IsInSection, IsEnter, IsLeave, Sole}
use Rattle.rmecore.proofs.Allowing.{Allows, allows_from}
use Rattle.rmecore.proofs.Invariant.{put_same, put_other}
use Rattle.rmecore.specs.declared.outer.Outer.TheVariants.{Ready as IsReady}

in_crashed : (phase : Phase) → IsInSection (phase_after_crash phase) → IsInSection phase
in_crashed Out h = h
in_crashed _ h = h

-- a process that is in after a change of p's phase was in before, provided p was
less_put : (f : ℕ → Phase) (p : ℕ) (x : Phase) (q : ℕ) → (IsInSection x → IsInSection (f p)) → IsInSection (put f p x q) → IsInSection (f q)
less_put f p x q go h =
    elim (cases_eq q p) [
      | inl e ↦ subst (λ r. IsInSection (f r)) (sym e) (go (subst IsInSection (put_same f p x) (subst (λ r. IsInSection (put f p x r)) e h)))
      | inr ne ↦ subst IsInSection (put_other f p x q ne) h
    ]

pub neither : (phase : Phase) → phase ≢ Inside → phase ≢ DeadIn → IsInSection phase → ⊥
neither Inside x y i = x refl
neither DeadIn x y i = y refl
neither _ x y i = i

module _ (n : ℕ) (a : Abstract) (sole : Sole n a) where
  -- a deed that brings no process in
  none_new : (p : ℕ) (x : Phase) → (IsInSection x → IsInSection (a.phase p)) → (q r : ℕ) → q < n → r < n → IsInSection (put a.phase p x q) → IsInSection (put a.phase p x r) → q ≡ r
  none_new p x go q r hq hr iq ir = sole q r hq hr (less_put a.phase p x q go iq) (less_put a.phase p x r go ir)

  -- an entry, where no process was in
  entered : (p q : ℕ) → Allows n a (Enter p) → q < n → IsInSection (put a.phase p Inside q) → q ≡ p
  entered p q h below i =
      elim (cases_eq q p) [
        | inl e ↦ e
        | inr ne ↦ absurd (neither (a.phase q) (h.2 q below) (h.3 q below) (subst IsInSection (put_other a.phase p Inside q ne) i))
      ]

  pub sole_by : (d : Outer) → Allows n a d → Sole n (abstract_after a d)
  sole_by (Begin p) h = none_new p Door (λ i. absurd i)
  sole_by (IsReady p) h = none_new p Ready (λ i. absurd i)
  sole_by (Enter p) h = λ q r hq hr iq ir. entered p q h hq iq ∙ sym (entered p r h hr ir)
  sole_by (Crash p) h = none_new p (phase_after_crash (a.phase p)) (in_crashed (a.phase p))
  sole_by (Reenter p) h = none_new p Inside (λ i. subst IsInSection (sym h.1) tt)
  sole_by (Leave p) h = none_new p Out (λ i. absurd i)
  sole_by (Quit p) h = none_new p Out (λ i. absurd i)

-- a deed changes the phase of its doer alone
pub phase_other : (a : Abstract) (d : Outer) (q : ℕ) → q ≢ doer d → (abstract_after a d).phase q ≡ a.phase q
phase_other a (Begin p) q ne = put_other a.phase p Door q ne
phase_other a d q ne = put_other a.phase (doer d) _ q ne

crashed_in : (phase : Phase) → IsInSection phase → IsInSection (phase_after_crash phase)
crashed_in Out h = h
crashed_in _ h = h

-- a process that was in is in after a change of p's phase, provided p is
more_put : (f : ℕ → Phase) (p : ℕ) (x : Phase) (q : ℕ) → (IsInSection (f p) → IsInSection x) → IsInSection (f q) → IsInSection (put f p x q)
more_put f p x q go h =
    elim (cases_eq q p) [
      | inl e ↦ subst (λ r. IsInSection (put f p x r)) (sym e) (subst IsInSection (sym (put_same f p x)) (go (subst (λ r. IsInSection (f r)) e h)))
      | inr ne ↦ subst IsInSection (sym (put_other f p x q ne)) h
    ]

-- only an entry brings a process in
pub in_before : (n : ℕ) (a : Abstract) (d : Outer) (q : ℕ) → Allows n a d → (IsEnter d → ⊥) → IsInSection ((abstract_after a d).phase q) → IsInSection (a.phase q)
in_before n a (Begin p) q h not i = less_put a.phase p Door q (λ x. absurd x) i
in_before n a (IsReady p) q h not i = less_put a.phase p Ready q (λ x. absurd x) i
in_before n a (Enter p) q h not i = absurd (not tt)
in_before n a (Crash p) q h not i = less_put a.phase p (phase_after_crash (a.phase p)) q (in_crashed (a.phase p)) i
in_before n a (Reenter p) q h not i = less_put a.phase p Inside q (λ x. subst IsInSection (sym h.1) tt) i
in_before n a (Leave p) q h not i = less_put a.phase p Out q (λ x. absurd x) i
in_before n a (Quit p) q h not i = less_put a.phase p Out q (λ x. absurd x) i

not_in : {phase : Phase} (x : Phase) → phase ≡ x → (IsInSection x → ⊥) → IsInSection phase → ⊥
not_in x e h i = h (subst IsInSection e i)

-- only an exit takes a process out
pub in_after : (n : ℕ) (a : Abstract) (d : Outer) (q : ℕ) → Allows n a d → (IsLeave d → ⊥) → IsInSection (a.phase q) → IsInSection ((abstract_after a d).phase q)
in_after n a (Begin p) q h not i = more_put a.phase p Door q (λ x. absurd (not_in Out h.1 (λ y. y) x)) i
in_after n a (IsReady p) q h not i = more_put a.phase p Ready q (λ x. absurd (not_in Door h.1 (λ y. y) x)) i
in_after n a (Enter p) q h not i = more_put a.phase p Inside q (λ x. tt) i
in_after n a (Crash p) q h not i = more_put a.phase p (phase_after_crash (a.phase p)) q (crashed_in (a.phase p)) i
in_after n a (Reenter p) q h not i = more_put a.phase p Inside q (λ x. tt) i
in_after n a (Leave p) q h not i = absurd (not tt)
in_after n a (Quit p) q h not i = more_put a.phase p Out q (λ x. absurd (elim h.1 [ inl e ↦ not_in Door e (λ y. y) x | inr e ↦ not_in Ready e (λ y. y) x ])) i

pub sole_nobody : (n : ℕ) → Sole n nobody
sole_nobody n p q hp hq ip iq = absurd ip

pub sole_done : (n : ℕ) (a : Abstract) (d : Outer) → AllHold (needs n a d) → Sole n a → Sole n (abstract_after a d)
sole_done n a d h sole = sole_by n a sole d (allows_from n a d h)

pub sole_after : (n : ℕ) (a : Abstract) (ds : List Outer) → Legal n a ds → Sole n a → Sole n (all_done a ds)
sole_after n a [] h sole = sole
sole_after n a (d ∷ ds) h sole = sole_after n (abstract_after a d) ds h.1 (sole_done n a d h.0 sole)
