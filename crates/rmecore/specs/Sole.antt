-- Mutual exclusion with re-entry (Golab and Ramaraju): at most one process is in the section, alive or crashed there.
use Rattle.std.specs.Prelude.{◌≡◌, ℕ, ◌<◌, List, [], ◌∷◌}
use Rattle.rmecore.specs.AbstractLock.{Abstract, abstract_after}
use Rattle.rmecore.specs.declared.outer.Outer.{Outer}
use Rattle.rmecore.specs.declared.outer.Outer.TheVariants.{Enter, Leave}
use Rattle.rmecore.specs.declared.phase.Phase.{Phase}
use Rattle.rmecore.specs.declared.phase.Phase.TheVariants.{Inside, DeadIn}

-- in the section, or crashed there and not entered again yet
abbrev pub IsInSection : Phase → Type 0
IsInSection Inside = Unit {0}
IsInSection DeadIn = Unit {0}
IsInSection _ = ⊥

-- an Enter, and a Leave
abbrev pub IsEnter : Outer → Type 0
IsEnter (Enter p) = Unit {0}
IsEnter _ = ⊥

abbrev pub IsLeave : Outer → Type 0
IsLeave (Leave p) = Unit {0}
IsLeave _ = ⊥

-- at most one of n processes is in
abbrev pub Sole : ℕ → Abstract → Type 0
Sole n a = (p q : ℕ) → p < n → q < n → IsInSection (a.phase p) → IsInSection (a.phase q) → p ≡ q

-- the state after a list of deeds
abbrev pub all_done : Abstract → List Outer → Abstract
all_done a [] = a
all_done a (d ∷ ds) = all_done (abstract_after a d) ds
