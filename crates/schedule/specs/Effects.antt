-- What events do to a listener.
use Rattle.std.specs.Prelude.{◌≡◌, List, [], ◌∷◌, ◌⊎◌}

-- what it does to a listener to hear one event, and what it does where the listener stops
pub record Effects (L E Stop : Type 0) : Type 1 where
  pub hears : L → E → L → Type 0
  pub stops : L → E → L → Stop → Type 0

-- these events are heard, one after another
abbrev pub HearsAll : {L E : Type 0} → (L → E → L → Type 0) → L → List E → L → Type 0
HearsAll hears before [] now = now ≡ before
HearsAll {L} hears before (event ∷ events) now = (next : L) × hears before event next × HearsAll hears next events now

-- some of these events are heard, and at the next one this holds
abbrev pub BreaksOffAt : {L E : Type 0} → (L → E → L → Type 0) → (L → E → Type 0) → L → List E → Type 0
BreaksOffAt hears at before [] = ⊥
BreaksOffAt {L} hears at before (event ∷ events) = at before event ⊎ ((next : L) × hears before event next × BreaksOffAt hears at next events)
