-- One step of a process: one access, and the local lines after it.
use Rattle.std.specs.Prelude.{ℕ, ◌+◌, ◌-◌, true, false, if◌then◌else◌, List, ◌++◌, take, replicate, slice_get, Option, Some, None, option_and_then, Result, Ok, ok_or}
use Rattle.std.specs.Option.{option_or}
use Rattle.algorithms.specs.Accesses.{access_of, access_after_read, names_after_read, passes}
use Rattle.algorithms.specs.Arrivals.{Arrival, arrives, most_local_rounds, ◌>>=◌}
use Rattle.algorithms.specs.LocalRuns.{nothing_noted}
use Rattle.algorithms.specs.declared.access.WordAccess.{WordAccess}
use Rattle.algorithms.specs.declared.access.Address.{Address}
use Rattle.algorithms.specs.declared.access.Advanced.{Advanced}
use Rattle.algorithms.specs.declared.access.Moved.{Moved}
use Rattle.algorithms.specs.declared.access.Taken.{Taken}
use Rattle.algorithms.specs.declared.algorithm.Algorithm.{Algorithm}
use Rattle.algorithms.specs.declared.constants.Constants.{Constants}
use Rattle.algorithms.specs.declared.line.AccessLine.{AccessLine}
use Rattle.algorithms.specs.declared.local.LocalState.{LocalState}
use Rattle.algorithms.specs.declared.process.AlgorithmPlace.TheVariants.{Rest, At}
use Rattle.algorithms.specs.declared.process.AlgorithmProcess.{AlgorithmProcess}
use Rattle.algorithms.specs.declared.refusal.AlgorithmRefusal.{AlgorithmRefusal}
use Rattle.algorithms.specs.declared.refusal.AlgorithmRefusal.TheVariants.{OutOfRange, Malformed}

-- what a call leaves of the names: the first ones stay, the others are 0
abbrev pub lasting_names : ℕ → List ℕ → List ℕ
lasting_names lasting store = take lasting store ++ replicate (64 - lasting) 0

-- a process before the access at a place, or at rest after its call
abbrev pub process_landed : ℕ → LocalState → Option ℕ → AlgorithmProcess
process_landed lasting s None = record { place = At s.at; store = s.store }
process_landed lasting s (Some answer) = record { place = Rest; store = lasting_names lasting s.store }

abbrev pub move_of_arrival : ℕ → Arrival → Moved
move_of_arrival lasting l = record { process = process_landed lasting l.state l.answer; noted = l.state.noted; answer = l.answer; blocked = false }

-- where a process comes to from a place by its local lines, with these names
abbrev pub goes_on : Algorithm → Constants → ℕ → List ℕ → Result Moved AlgorithmRefusal
goes_on a c at store = do
  l ← arrives a.lines.items c most_local_rounds (record { at = at; store = store; noted = nothing_noted })
  Ok (move_of_arrival a.lasting l)

-- a blocked reading leaves the process as it was
abbrev pub stays : ℕ → List ℕ → Moved
stays at store = record { process = record { place = At at; store = store }; noted = nothing_noted; answer = None; blocked = true }

-- the word at an address
abbrev pub word_at : List (List ℕ) → Address → Option ℕ
word_at words address = option_and_then (λ row. slice_get row address.index) (slice_get words address.declaration)

-- the value that an access stores, or the word that it loads
abbrev pub value_of : List (List ℕ) → WordAccess → Option ℕ
value_of words access = option_or access.stores (word_at words access.address)

-- the step of a process before the access at a place. A swap reads its word and stores in one step
abbrev pub step_before_access : Algorithm → Constants → List (List ℕ) → ℕ → AccessLine → List ℕ → Result Taken AlgorithmRefusal
step_before_access a c words at line store = do
  access ← ok_or (access_of a.declarations.items c store line) (OutOfRange at)
  value ← ok_or (value_of words access) (Malformed at)
  made ← ok_or (access_after_read a.declarations.items c (names_after_read line.action value store) line.action access) (OutOfRange at)
  goes ← ok_or (passes c (names_after_read line.action value store) line.action) (OutOfRange at)
  moved ← if goes then goes_on a c (at + 1) (names_after_read line.action value store) else Ok (stays at store)
  Ok (record { at = at; access = made; value = value; moved = moved })

-- ---- a step in place: what it says, and what it has made of its process

-- a process before the access at its place
abbrev pub before_step : ℕ → AlgorithmProcess → LocalState
before_step at process = record { at = at; store = process.store; noted = nothing_noted }

-- a process at the end of its local lines, with its names as they are
abbrev pub process_stopped_at : LocalState → Option ℕ → AlgorithmProcess
process_stopped_at s None = record { place = At s.at; store = s.store }
process_stopped_at s (Some answer) = record { place = Rest; store = s.store }

abbrev pub move_to_state : LocalState → Option ℕ → Moved
move_to_state s answer = record { process = process_stopped_at s answer; noted = s.noted; answer = answer; blocked = false }

-- the process that a step leaves: after a blocked reading the one that was there before
abbrev pub process_left : LocalState → Advanced → LocalState → AlgorithmProcess
process_left before a s = if a.blocked then process_stopped_at before None else process_stopped_at s a.answer

-- the step that says this
abbrev pub step_from : LocalState → Advanced → LocalState → Taken
step_from before a s =
    record { at = before.at; access = a.access; value = a.value; moved = record { process = process_left before a s; noted = a.noted; answer = a.answer; blocked = a.blocked } }

-- what a step says, without the process that it leaves
abbrev pub advance_of : Taken → Advanced
advance_of t = record { access = t.access; value = t.value; noted = t.moved.noted; answer = t.moved.answer; blocked = t.moved.blocked }
