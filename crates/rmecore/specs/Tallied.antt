-- A core's counts agree with the table of own steps: the table's number plus the blocked steps.
use Rattle.std.specs.Prelude.{◌≡◌, ℕ, ◌+◌, ◌-◌, ◌^◌, ◌<◌, List, Some}
use Rattle.rmecore.specs.Place.{Place, Reread}
use Rattle.rmecore.specs.OwnSteps.{own_steps}
use Rattle.rmecore.specs.Paid.{Pays}
use Rattle.rmecore.specs.World.{World}
use Rattle.rmecore.specs.Simulated.{tally_at}
use Rattle.rmecore.specs.declared.core_done.CoreDone.{CoreDone}
use Rattle.rmecore.specs.declared.own.Own.{Own}
use Rattle.rmecore.specs.declared.tally.Tally.{Tally}

-- the count has not saturated
abbrev pub IsExact : Tally → Type 0
IsExact t = t.steps < 2 ^ 64 - 1

-- a call that ended with this answer took exactly the table's steps and the blocked ones
abbrev pub HasTaken : ℕ → Tally → CoreDone → Type 0
HasTaken n t done = (x : ℕ) × (own_steps n t.began.choosing t.began.number t.began.inside done ≡ Some x) × (t.steps ≡ x + t.blocked)

-- a call under way at this place has taken exactly the steps before the place and the blocked ones
abbrev pub IsTaking : ℕ → Tally → Place → Type 0
IsTaking n t place = (x : ℕ) × Pays n t.began.choosing t.began.number t.began.inside place x × (t.steps ≡ x + t.blocked)

-- the process rereads its words
abbrev pub IsRereading : Place → Type 0
IsRereading (Reread call seen) = Unit {0}
IsRereading _ = ⊥

-- the invariant of a process's counts, with these words at this place
pub record IsTallied (n : ℕ) (own : Own) (place : Place) (t : Tally) : Type 0 where
  pub began : IsRereading place → t.began ≡ own
  pub taking : IsExact t → IsTaking n t place

-- the invariant of the counts of all processes
abbrev pub AllTallied : ℕ → World → List Tally → Type 0
AllTallied n w tallies = (p : ℕ) → p < n → IsTallied n (w.words p) (w.places p) (tally_at tallies p)
