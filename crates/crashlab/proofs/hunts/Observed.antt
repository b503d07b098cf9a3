-- The observer of a hunt.
use Rattle.std.proofs.Common.{◌≡◌, ◌≢◌, ◌<◌, ◌≤◌, ◌⊎◌, inl, inr, ℕ, zero, suc, ◌==◌, Bool, true, false, if◌then◌else◌, List, slice_get, slice_set, Some, refl, sym, ap, ◌∙◌, arith, length-set, get_or, get_or-set_same, get_or-set_other}
use Rattle.std.proofs.lemmas.Bool.{cases_eq, eqb-true}
use Rattle.std.proofs.lemmas.Option.{slice_get-get_or, slice_get_within}
use Rattle.rmecore.proofs.Invariant.{eqb_self}
use Rattle.crashlab.specs.declared.hunts.observer.Observation.{Observation}
use Rattle.crashlab.specs.hunts.Draws.{Sight, at_process}
use Rattle.crashlab.specs.hunts.Observed.{Observes, observation_of}

eqb_not : (q p : ℕ) → q ≢ p → (q == p) ≡ false
eqb_not q p ne = by (q == p) refl
  where
    by : (b : Bool) → (q == p) ≡ b → b ≡ false
    by true e = absurd (ne (eqb-true q p e))
    by false e = refl

-- process p is observed anew
pub observes_at : (p : ℕ) (change : List Sight → List Sight) (seen : ℕ → List Sight) (observations : List Observation) (x : Observation)
    → Observes seen observations → p < 3 → x ≡ observation_of (change (seen p)) → Observes (at_process p change seen) (slice_set observations p x)
observes_at p change seen observations x observes within is q below = go (cases_eq q p)
  where
    here : slice_get (slice_set observations p x) q ≡ Some (get_or (slice_set observations p x) q x)
    here = slice_get-get_or (slice_set observations p x) q x (rw (length-set observations p x) (slice_get_within observations q _ (observes q below)))

    go : (q ≡ p) ⊎ (q ≢ p) → slice_get (slice_set observations p x) q ≡ Some (observation_of (at_process p change seen q))
    go (inl e) =
        here ∙ ap Some (ap (λ r. get_or (slice_set observations p x) r x) e ∙ get_or-set_same observations p x x (slice_get_within observations p _ (observes p within)) ∙ is
        ∙ sym (ap (λ b. observation_of (if b then change (seen q) else seen q)) (ap (λ r. r == p) e ∙ eqb_self p) ∙ ap (λ r. observation_of (change (seen r))) e))
    go (inr ne) =
        here ∙ ap Some (get_or-set_other observations p q x x ne) ∙ sym (slice_get-get_or observations q x (slice_get_within observations q _ (observes q below))) ∙ observes q below
        ∙ sym (ap (λ b. Some (observation_of (if b then change (seen q) else seen q))) (eqb_not q p ne))

-- there is no process p
pub observes_past : (p : ℕ) (change : List Sight → List Sight) (seen : ℕ → List Sight) (observations : List Observation) → Observes seen observations → 3 ≤ p → Observes (at_process p change seen) observations
observes_past p change seen observations observes past q below =
    observes q below ∙ sym (ap (λ b. Some (observation_of (if b then change (seen q) else seen q))) (eqb_not q p (λ e. absurd (omega (arith, e, past, below)))))

-- all three processes are observed anew, one after another
pub observes_each : (change : List Sight → List Sight) (seen : ℕ → List Sight) (observations : List Observation)
    → Observes (at_process 2 change (at_process 1 change (at_process 0 change seen))) observations → Observes (λ p. change (seen p)) observations
observes_each change seen observations observes zero below = observes 0 below
observes_each change seen observations observes (suc zero) below = observes 1 below
observes_each change seen observations observes (suc (suc zero)) below = observes 2 below
observes_each change seen observations observes (suc (suc (suc q))) below = absurd (omega (arith, below))
