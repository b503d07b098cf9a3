-- What the lock's invariant knows of a place: the value of its load, the word of its access, and its phase.
use Rattle.std.proofs.Common.{◌≡◌, ℕ, zero, suc, ◌<◌, ◌≤◌, true, false, nat_lt, [], ◌∷◌, Option, Some, None, IsSome, refl, sym, ◌∙◌, subst, inl, inr, arith, IfSome}
use Rattle.std.proofs.lemmas.Bool.{cases_Bool}
use Rattle.rmecore.specs.Machine.{access, word_of, InLock}
use Rattle.rmecore.specs.Place.{Place, Rest, Dead, Reread, Opening, Door, Shutting, Wait, Inside, Leaving, Withdrawing, Unmarking, place_after_start as lock_started}
use Rattle.rmecore.specs.Refused.{start_refusal as lock_refusal}
use Rattle.rmecore.specs.World.{World, read}
use Rattle.rmecore.specs.declared.core_call.CoreCall.{CoreCall}
use Rattle.rmecore.specs.declared.core_call.CoreCall.TheVariants as cores
use Rattle.rmecore.specs.declared.own.Own.{Own}
use Rattle.rmecore.specs.declared.phase.Phase.{Phase}
use Rattle.rmecore.specs.declared.phase.Phase.TheVariants as phases
use Rattle.rmecore.proofs.Bounds.{Bounded}
use Rattle.rmecore.proofs.Invariant.{Fits, phase_of as lock_phase, phase_at, within_means, phase_within}
use Rattle.algorithms.specs.declared.process.AlgorithmProcess.{AlgorithmProcess}
use Rattle.algorithm_lab.proofs.BakeryPlaces.{Stands}
use Rattle.algorithm_lab.proofs.BakerySteps.{ValueFits}
use Rattle.algorithm_lab.proofs.BakeryStarts.{PhaseFits}

-- what the invariant of the lock knows of the value of a load
pub value_fits : (limit n p : ℕ) (w : World) (place : Place) → Fits (w.words p) place → Bounded limit w → IfSome (access limit p place) (λ acc. ValueFits limit place (read w.words (word_of acc)))
value_fits limit n p w (Reread call []) fits bounded = tt
value_fits limit n p w (Reread call (c ∷ [])) fits bounded = tt
value_fits limit n p w (Reread call (c ∷ k ∷ [])) fits bounded = (subst (λ x. x ≤ 1) fits.1 (bounded.small p).choosing, (bounded.small p).inside)
value_fits limit n p w (Reread call (c ∷ k ∷ i ∷ seen)) fits bounded = tt
value_fits limit n p w (Door (j ∷ js) m) fits bounded = (bounded.small j).number
value_fits limit n p w (Door [] m) fits bounded = elim (cases_Bool (nat_lt m limit)) [ inl e ↦ rw e tt | inr e ↦ rw e tt ]
value_fits limit n p w (Wait k [] None) fits bounded = tt
value_fits limit n p w (Wait k (j ∷ js) None) fits bounded = tt
value_fits limit n p w (Wait k unpassed (Some j)) fits bounded = tt
value_fits limit n p w Rest fits bounded = tt
value_fits limit n p w Dead fits bounded = tt
value_fits limit n p w Opening fits bounded = tt
value_fits limit n p w (Shutting call k) fits bounded = tt
value_fits limit n p w Inside fits bounded = tt
value_fits limit n p w Leaving fits bounded = tt
value_fits limit n p w Withdrawing fits bounded = tt
value_fits limit n p w (Unmarking call) fits bounded = tt

-- the word of an access is a lock word
pub in_lock : (limit n p : ℕ) (place : Place) (t : AlgorithmProcess) → p < n → Stands n limit p place t → IfSome (access limit p place) (λ acc. InLock n (word_of acc))
in_lock limit n p (Reread call []) t own stands = own
in_lock limit n p (Reread call (c ∷ [])) t own stands = own
in_lock limit n p (Reread call (c ∷ k ∷ [])) t own stands = own
in_lock limit n p (Reread call (c ∷ k ∷ i ∷ seen)) t own stands = tt
in_lock limit n p (Door (j ∷ js) m) t own stands = stands.2.0
in_lock limit n p (Door [] m) t own stands = elim (cases_Bool (nat_lt m limit)) [ inl e ↦ rw e own | inr e ↦ rw e own ]
in_lock limit n p (Wait k [] None) t own stands = own
in_lock limit n p (Wait k (j ∷ js) None) t own stands = stands.2.0
in_lock limit n p (Wait k unpassed (Some j)) t own stands = stands.2
in_lock limit n p Rest t own stands = tt
in_lock limit n p Dead t own stands = tt
in_lock limit n p Opening t own stands = own
in_lock limit n p (Shutting call k) t own stands = own
in_lock limit n p Inside t own stands = tt
in_lock limit n p Leaving t own stands = own
in_lock limit n p Withdrawing t own stands = own
in_lock limit n p (Unmarking call) t own stands = own

dead_outside : (c k i : ℕ) → phase_at c k i true ≡ phases.Inside → ⊥
dead_outside zero zero i e = cc
dead_outside (suc c) zero i e = cc
dead_outside zero (suc k) zero e = cc
dead_outside (suc c) (suc k) zero e = cc
dead_outside zero (suc k) (suc i) e = cc
dead_outside (suc c) (suc k) (suc i) e = cc

pub phase_fits : (place : Place) (x : Own) (phase : Phase) → Fits x place → phase ≡ lock_phase x place → PhaseFits place phase
phase_fits Rest x phase fits e = λ is. let some = within_means x.choosing x.number x.inside false (sym e ∙ is) in omega (arith, some, fits.0)
phase_fits Dead x phase fits e = λ is. dead_outside x.choosing x.number x.inside (sym e ∙ is)
phase_fits Inside x phase fits e = e ∙ phase_within x.choosing x.number x.inside fits.1 fits.2
phase_fits (Reread call seen) x phase fits e = tt
phase_fits Opening x phase fits e = tt
phase_fits (Door u m) x phase fits e = tt
phase_fits (Shutting call k) x phase fits e = tt
phase_fits (Wait k u l) x phase fits e = tt
phase_fits Leaving x phase fits e = tt
phase_fits Withdrawing x phase fits e = tt
phase_fits (Unmarking call) x phase fits e = tt

-- a start that is not refused is allowed
pub may_start : (call : CoreCall) (place : Place) → lock_refusal place call ≡ None → IsSome (lock_started place call)
may_start cores.Lock Rest e = refl
may_start cores.Lock Dead e = refl
may_start cores.Recover Rest e = refl
may_start cores.Recover Dead e = refl
may_start cores.Unlock Inside e = refl
may_start cores.Withdraw (Wait k u l) e = refl
may_start _ _ e = cc

pub some_is : {A : Type 0} (o : Option A) → IsSome o → (x : A) × (o ≡ Some x)
some_is None h = absurd (cc)
some_is (Some x) h = (x, refl)

pub at_some : {A : Type 0} (o : Option A) (x : A) (P : A → Type 0) → o ≡ Some x → IfSome o P → P x
at_some o x P e h = subst (λ r. IfSome r P) e h
