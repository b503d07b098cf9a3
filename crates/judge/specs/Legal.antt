-- "Legal history": a list of deeds that the judge table allows, one after another.
use Rattle.std.specs.Prelude.{◌≡◌, ℕ, List, [], ◌∷◌, Result, Ok, Err}
use Rattle.rmecore.specs.declared.fault.Fault.{Fault}
use Rattle.redomail.specs.declared.deed.Deed.{Deed}
use Rattle.judge.specs.Table.{State, empty_state, state_after_deed}

abbrev pub and_then : Result State Fault → (State → Result State Fault) → Result State Fault
and_then (Ok s) next = next s
and_then (Err fault) next = Err fault

-- the state after these deeds, or the fault of the first that is not allowed
abbrev pub judged_all : State → List Deed → Result State Fault
judged_all s [] = Ok s
judged_all s (d ∷ ds) = and_then (state_after_deed s d) (λ t. judged_all t ds)

-- the deeds are legal from state s, and t is the state after them
abbrev pub Leads : State → List Deed → State → Type 0
Leads s deeds t = judged_all s deeds ≡ Ok t

-- a legal history of a new lock with procs processes and a capacity of cap messages
abbrev pub IsLegal : ℕ → ℕ → List Deed → Type 0
IsLegal procs cap deeds = (t : State) × Leads (empty_state procs cap) deeds t
