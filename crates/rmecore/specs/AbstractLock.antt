-- Abstract lock of docs/theory/judge.md (Golab and Ramaraju; Jayanti and Joshi): a phase for each process and, for each
-- process, the set of those ahead of it. It has no numbers. Its deeds are the rows Begin to Quit of the judge table.
use Rattle.std.specs.Prelude.{ℕ, Bool, true, false, ◌||◌, nat_lt, List, [], ◌∷◌}
use Rattle.rmecore.specs.Needs.{AllHold, least_below, none_below, put}
use Rattle.rmecore.specs.declared.fault.Fault.{Fault}
use Rattle.rmecore.specs.declared.fault.Fault.TheVariants.{OutOfPlace, TwoInside, NotReentered, Overtaken}
use Rattle.rmecore.specs.declared.outer.Outer.{Outer}
use Rattle.rmecore.specs.declared.outer.Outer.TheVariants.{Begin, Ready as IsReady, Enter, Crash, Reenter, Leave, Quit}
use Rattle.rmecore.specs.declared.phase.Phase.{Phase}
use Rattle.rmecore.specs.declared.phase.Phase.TheVariants.{Out, Door, Ready, Inside, DeadIn}

-- the state of the abstract lock
pub record Abstract : Type 0 where
  pub phase : ℕ → Phase
  -- ahead p q: q is in p's set, and must enter or quit before p enters
  pub ahead : ℕ → ℕ → Bool

-- all processes out, all sets empty
abbrev pub nobody : Abstract
nobody = record { phase = λ p. Out; ahead = λ p q. false }

-- tests of a phase
abbrev pub is_out : Phase → Bool
is_out Out = true
is_out _ = false

abbrev pub is_door : Phase → Bool
is_door Door = true
is_door _ = false

abbrev pub is_ready : Phase → Bool
is_ready Ready = true
is_ready _ = false

abbrev pub is_inside : Phase → Bool
is_inside Inside = true
is_inside _ = false

abbrev pub is_dead_in : Phase → Bool
is_dead_in DeadIn = true
is_dead_in _ = false

-- the phase after a crash
abbrev pub phase_after_crash : Phase → Phase
phase_after_crash Inside = DeadIn
phase_after_crash phase = phase

-- the process of a deed
abbrev pub doer : Outer → ℕ
doer (Begin p) = p
doer (IsReady p) = p
doer (Enter p) = p
doer (Crash p) = p
doer (Reenter p) = p
doer (Leave p) = p
doer (Quit p) = p

-- a deed's row of the judge table among n processes: its needs in order, each with its fault
abbrev pub row : ℕ → Abstract → Outer → List (Bool × Fault)
row n a (Begin p) = (is_out (a.phase p), OutOfPlace) ∷ []
row n a (IsReady p) = (is_door (a.phase p), OutOfPlace) ∷ []
row n a (Enter p) =
    (is_ready (a.phase p), OutOfPlace)
    ∷ (none_below n (λ q. is_inside (a.phase q)), TwoInside)
    ∷ (none_below n (λ q. is_dead_in (a.phase q)), NotReentered)
    ∷ (none_below n (a.ahead p), Overtaken p (least_below n (a.ahead p)))
    ∷ []
row n a (Crash p) = []
row n a (Reenter p) = (is_dead_in (a.phase p), OutOfPlace) ∷ []
row n a (Leave p) = (is_inside (a.phase p), OutOfPlace) ∷ []
row n a (Quit p) = (is_door (a.phase p) || is_ready (a.phase p), OutOfPlace) ∷ []

-- every deed needs a process below n first, then its row
abbrev pub needs : ℕ → Abstract → Outer → List (Bool × Fault)
needs n a d = (nat_lt (doer d) n, OutOfPlace) ∷ row n a d

-- the effect of a deed ("does" in the judge table)
abbrev pub abstract_after : Abstract → Outer → Abstract
abstract_after a (Begin p) = record { phase = put a.phase p Door; ahead = put a.ahead p (λ q. is_ready (a.phase q)) }
abstract_after a (IsReady p) = record { phase = put a.phase p Ready; ahead = a.ahead }
abstract_after a (Enter p) = record { phase = put a.phase p Inside; ahead = λ q. put (a.ahead q) p false }
abstract_after a (Crash p) = record { phase = put a.phase p (phase_after_crash (a.phase p)); ahead = a.ahead }
abstract_after a (Reenter p) = record { phase = put a.phase p Inside; ahead = a.ahead }
abstract_after a (Leave p) = record { phase = put a.phase p Out; ahead = a.ahead }
abstract_after a (Quit p) = record { phase = put a.phase p Out; ahead = λ q. put (a.ahead q) p false }

-- "Legal history", the lock's part: each deed is allowed after those before it
abbrev pub Legal : ℕ → Abstract → List Outer → Type 0
Legal n a [] = Unit {0}
Legal n a (d ∷ ds) = AllHold (needs n a d) × Legal n (abstract_after a d) ds
