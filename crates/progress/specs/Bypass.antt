-- Bypass: how often another process enters while p waits (bounded overtaking). It holds of every run, whatever crashes or
-- gives up.
use Rattle.std.specs.Prelude.{◌≡◌, ◌≢◌, ℕ, suc, ◌<◌, ◌≤◌, ◌==◌, if◌then◌else◌, List, [], ◌∷◌}
use Rattle.rmecore.specs.AbstractLock.{Abstract, Legal, abstract_after}
use Rattle.rmecore.specs.Place.{Event}
use Rattle.rmecore.specs.World.{World, Run, after, deeds}
use Rattle.rmecore.specs.declared.outer.Outer.{Outer}
use Rattle.rmecore.specs.declared.outer.Outer.TheVariants.{Enter}
use Rattle.rmecore.specs.declared.phase.Phase.TheVariants.{Ready}

-- how often q enters in a list of deeds. A re-entry after a crash is no entry
abbrev pub times_entered : ℕ → List Outer → ℕ
times_entered q [] = 0
times_entered q (Enter p ∷ ds) = if p == q then suc (times_entered q ds) else times_entered q ds
times_entered q (d ∷ ds) = times_entered q ds

-- p has begun its doorway, and has no number yet
pub record IsInDoorway (w : World) (p : ℕ) : Type 0 where
  pub begun : 0 < (w.words p).choosing
  pub unnumbered : (w.words p).number ≡ 0

-- q holds no number, and is in no doorway
pub record IsOutside (w : World) (q : ℕ) : Type 0 where
  pub closed : (w.words q).choosing ≡ 0
  pub unnumbered : (w.words q).number ≡ 0

-- the worlds of a run, from its first to its last, all satisfy P
abbrev pub Throughout : (World → Type 0) → ℕ → ℕ → World → List Event → Type 0
Throughout P n limit w [] = P w
Throughout P n limit w (e ∷ es) = P w × Throughout P n limit (after n limit w e) es

-- as long as p satisfies P, each other process enters once at most
abbrev pub EntersOnce : (World → ℕ → Type 0) → ℕ → ℕ → World → ℕ → Type 0
EntersOnce P n limit w p =
    (q : ℕ) (events : List Event) → q ≢ p → Run n limit w events → Throughout (λ v. P v p) n limit w events → times_entered q (deeds n limit w events) ≤ 1

-- who begins after p has begun does not enter before p has its number, or gives up
abbrev pub LaterWaitsForDoorway : ℕ → ℕ → World → ℕ → Type 0
LaterWaitsForDoorway n limit w p =
    (q : ℕ) (events : List Event) → q < n → q ≢ p → IsOutside w q → Run n limit w events → Throughout (λ v. IsInDoorway v p) n limit w events
    → times_entered q (deeds n limit w events) ≡ 0

-- p is ready in the abstract lock through all these deeds
abbrev pub ReadyThroughout : ℕ → Abstract → List Outer → Type 0
ReadyThroughout p a [] = a.phase p ≡ Ready
ReadyThroughout p a (d ∷ ds) = (a.phase p ≡ Ready) × ReadyThroughout p (abstract_after a d) ds

-- the same of every legal history, of whatever lock: while p is ready, each other process enters once at most
abbrev pub EntersOnceWhileReady : ℕ → Abstract → ℕ → Type 0
EntersOnceWhileReady n a p = (q : ℕ) (ds : List Outer) → q ≢ p → Legal n a ds → ReadyThroughout p a ds → times_entered q ds ≤ 1
