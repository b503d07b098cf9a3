-- The worlds of an algorithm, and what a start, a step and a crash of a process make of them.
use Rattle.std.specs.Prelude.{ℕ, ◌^◌, nat_lt, nat_le, Bool, false, ◌&&◌, if◌then◌else◌, List, length, replicate, slice_get, slice_set, Option, Some, None, Result, Ok, Err, ok_or}
use Rattle.algorithms.specs.Accesses.{access_of}
use Rattle.algorithms.specs.Arrivals.{arrives, line_at, most_local_rounds, ◌>>=◌}
use Rattle.algorithms.specs.FirstWords.{first_rows, has_all_values, rows_at_beginning}
use Rattle.algorithms.specs.LocalRuns.{nothing_noted}
use Rattle.algorithms.specs.PromisedSteps.{promised_steps_at}
use Rattle.algorithms.specs.Steps.{lasting_names, step_before_access, advance_of}
use Rattle.algorithms.specs.declared.access.Address.{Address}
use Rattle.algorithms.specs.declared.access.Advanced.{Advanced}
use Rattle.algorithms.specs.declared.access.Taken.{Taken}
use Rattle.algorithms.specs.declared.access.WordAccess.{WordAccess}
use Rattle.algorithms.specs.declared.algorithm.Algorithm.{Algorithm}
use Rattle.algorithms.specs.declared.algorithm.AlgorithmCall.{AlgorithmCall}
use Rattle.algorithms.specs.declared.algorithm.AlgorithmCall.TheVariants.{Lock, Unlock, Recover, Withdraw}
use Rattle.algorithms.specs.declared.algorithm.Entries.{Entries}
use Rattle.algorithms.specs.declared.constants.Constants.{Constants}
use Rattle.algorithms.specs.declared.first_values.InitializedAlgorithm.{InitializedAlgorithm}
use Rattle.algorithms.specs.declared.line.AccessLine.{AccessLine}
use Rattle.algorithms.specs.declared.line.LineKind.{LineKind}
use Rattle.algorithms.specs.declared.line.LineKind.TheVariants.{Access, Local, Done}
use Rattle.algorithms.specs.declared.local.LocalState.{LocalState}
use Rattle.algorithms.specs.declared.process.AlgorithmPlace.{AlgorithmPlace}
use Rattle.algorithms.specs.declared.process.AlgorithmPlace.TheVariants.{Rest, Dead, At}
use Rattle.algorithms.specs.declared.process.AlgorithmProcess.{AlgorithmProcess}
use Rattle.algorithms.specs.declared.promised_steps.PromisedSteps.{PromisedSteps}
use Rattle.algorithms.specs.declared.refusal.AlgorithmRefusal.{AlgorithmRefusal}
use Rattle.algorithms.specs.declared.refusal.AlgorithmRefusal.TheVariants.{BadProcs, BadLimit, NoSuchProcess, CallUnderWay, NothingToDo, NotWaiting, NoSuchCall, OutOfRange, Malformed, OutOfMemory}

-- a world: its algorithm and sizes, the rows of words that first values gave it, where some are said, a row of shared words for each
-- declaration, and the processes
pub record AlgorithmWorldState : Type 0 where
  pub algorithm : Algorithm
  pub procs : ℕ
  pub limit : ℕ
  pub first_rows : Option (List (List ℕ))
  pub words : List (List ℕ)
  pub processes : List AlgorithmProcess

abbrev pub no_names : List ℕ
no_names = replicate 64 0

abbrev pub resting : AlgorithmProcess
resting = record { place = Rest; store = no_names }

-- a new world of these first rows, in which all processes are at rest
abbrev pub world_of_rows : Algorithm → ℕ → ℕ → Option (List (List ℕ)) → AlgorithmWorldState
world_of_rows a procs limit first = record {
  algorithm = a;
  procs = procs;
  limit = limit;
  first_rows = first;
  words = rows_at_beginning first (length a.declarations.items);
  processes = replicate procs resting;
}

-- at the beginning words have their first values, and all processes are at rest
abbrev pub first_world : InitializedAlgorithm → ℕ → ℕ → AlgorithmWorldState
first_world a procs limit = world_of_rows a.algorithm procs limit (first_rows a.algorithm procs limit a.first_values)

-- the same world at its beginning
abbrev pub world_at_beginning : AlgorithmWorldState → AlgorithmWorldState
world_at_beginning w = record w { words = rows_at_beginning w.first_rows (length w.words); processes = replicate (length w.processes) resting }

-- the refusal of sizes for which a constant, a first value, an array or a bound on own steps has no value
abbrev pub value_refusal : InitializedAlgorithm → ℕ → ℕ → Option AlgorithmRefusal
value_refusal a procs limit = if has_all_values a.algorithm procs limit a.first_values then None else Some BadProcs

-- the refusal of a world of this size. Out of memory is not among them
abbrev pub new_refusal : InitializedAlgorithm → ℕ → ℕ → Option AlgorithmRefusal
new_refusal a procs limit =
    if nat_le a.algorithm.least procs && nat_le procs a.algorithm.most && nat_le 1 procs && nat_le procs 64
    then (if nat_lt 0 limit && nat_le limit (2 ^ 62) then value_refusal a procs limit else Some BadLimit)
    else Some BadProcs

-- the refusal as a cause. Out of memory has none
abbrev pub cause : AlgorithmRefusal → Option AlgorithmRefusal
cause OutOfMemory = None
cause e = Some e

abbrev pub constants_of : AlgorithmWorldState → ℕ → Constants
constants_of w p = record { me = p; procs = w.procs; limit = w.limit }

-- the bounds on own steps of its algorithm
abbrev pub promised_steps : AlgorithmWorldState → PromisedSteps
promised_steps w = promised_steps_at w.procs w.limit w.algorithm.step_bounds

abbrev pub process_of : AlgorithmWorldState → ℕ → Result AlgorithmProcess AlgorithmRefusal
process_of w p = ok_or (slice_get w.processes p) NoSuchProcess

-- the access line of a form
abbrev pub access_line : ℕ → LineKind → Result AccessLine AlgorithmRefusal
access_line at (Access line) = Ok line
access_line at (Local line) = Err (Malformed at)
access_line at (Done answer) = Err (Malformed at)

-- the access line at a place
abbrev pub access_at : Algorithm → ℕ → Result AccessLine AlgorithmRefusal
access_at a at = do
  line ← line_at a.lines.items at
  access_line at line.form

-- the place of a call under way
abbrev pub under_way : AlgorithmPlace → Result ℕ AlgorithmRefusal
under_way Rest = Err NothingToDo
under_way Dead = Err NothingToDo
under_way (At at) = Ok at

-- the step of one process, with the words as they are
abbrev pub taken_by : Algorithm → Constants → List (List ℕ) → AlgorithmProcess → Result Taken AlgorithmRefusal
taken_by a c words process = do
  at ← under_way process.place
  line ← access_at a at
  step_before_access a c words at line process.store

-- the step that a process takes
abbrev pub step_of_process : AlgorithmWorldState → ℕ → Result Taken AlgorithmRefusal
step_of_process w p = do
  process ← process_of w p
  taken_by w.algorithm (constants_of w p) w.words process

abbrev pub stored_in : List (List ℕ) → Address → ℕ → Option (List ℕ) → List (List ℕ)
stored_in words address v None = words
stored_in words address v (Some row) = slice_set words address.declaration (slice_set row address.index v)

-- the words after an access, which may store a value. An address outside of the rows stores nothing
abbrev pub words_after_access : List (List ℕ) → Address → Option ℕ → List (List ℕ)
words_after_access words address None = words
words_after_access words address (Some v) =
    if nat_lt address.index 64 then stored_in words address v (slice_get words address.declaration) else words

abbrev pub with_process : AlgorithmWorldState → ℕ → AlgorithmProcess → AlgorithmWorldState
with_process w p process = record w { processes = slice_set w.processes p process }

-- the world after a step that was taken
abbrev pub after_step : AlgorithmWorldState → ℕ → Taken → AlgorithmWorldState
after_step w p t = record w { words = words_after_access w.words t.access.address t.access.stores; processes = slice_set w.processes p t.moved.process }

-- a step, and the world after it
abbrev pub step : AlgorithmWorldState → ℕ → Result (Taken × AlgorithmWorldState) AlgorithmRefusal
step w p = do
  t ← step_of_process w p
  Ok (t, after_step w p t)

-- what a step says, without the process that it leaves, and the world after it
abbrev pub advance_in_world : Taken × AlgorithmWorldState → Result (Advanced × AlgorithmWorldState) AlgorithmRefusal
advance_in_world s = Ok (advance_of s.0, s.1)

abbrev pub advance : AlgorithmWorldState → ℕ → Result (Advanced × AlgorithmWorldState) AlgorithmRefusal
advance w p = step w p >>= advance_in_world

-- the access that a process makes next, before its word is read
abbrev pub next_access : AlgorithmWorldState → ℕ → Result WordAccess AlgorithmRefusal
next_access w p = do
  process ← process_of w p
  at ← under_way process.place
  line ← access_at w.algorithm at
  ok_or (access_of w.algorithm.declarations.items (constants_of w p) process.store line) (OutOfRange at)

-- where a call begins
abbrev pub entry_of : Entries → AlgorithmCall → Option ℕ
entry_of entries Lock = Some entries.lock
entry_of entries Unlock = Some entries.unlock
entry_of entries Recover = entries.recover
entry_of entries Withdraw = entries.withdraw

-- an access at which a lock may be given up
abbrev pub may_withdraw : Result AccessLine AlgorithmRefusal → Bool
may_withdraw (Ok line) = line.may_withdraw
may_withdraw (Err e) = false

-- why a process at this place may not start the call. A withdraw gives up a lock under way, every other call begins at rest
abbrev pub start_refusal : Algorithm → AlgorithmPlace → AlgorithmCall → Option AlgorithmRefusal
start_refusal a (At at) Withdraw = if may_withdraw (access_at a at) then None else Some NotWaiting
start_refusal a Rest Withdraw = Some NotWaiting
start_refusal a Dead Withdraw = Some NotWaiting
start_refusal a Rest call = None
start_refusal a Dead call = None
start_refusal a (At at) call = Some CallUnderWay

abbrev pub unless : Option AlgorithmRefusal → Result ℕ AlgorithmRefusal → Result ℕ AlgorithmRefusal
unless None r = r
unless (Some e) r = Err e

-- the process that has come to the first access of its call. A call that ends before it is malformed
abbrev pub begun_at : LocalState → Option ℕ → Result AlgorithmProcess AlgorithmRefusal
begun_at s None = Ok (record { place = At s.at; store = s.store })
begun_at s (Some answer) = Err (Malformed s.at)

-- where a process comes to from the place at which its call begins
abbrev pub begun_from : Algorithm → Constants → ℕ → List ℕ → Result AlgorithmProcess AlgorithmRefusal
begun_from a c entry store = do
  l ← arrives a.lines.items c most_local_rounds (record { at = entry; store = store; noted = nothing_noted })
  begun_at l.state l.answer

-- what the start of a call makes of a process. Of its names those that last are left
abbrev pub process_after_start : Algorithm → Constants → AlgorithmProcess → AlgorithmCall → Result AlgorithmProcess AlgorithmRefusal
process_after_start a c process call = do
  entry ← ok_or (entry_of a.entries call) NoSuchCall
  at ← unless (start_refusal a process.place call) (Ok entry)
  begun_from a c at (lasting_names a.lasting process.store)

abbrev pub start_of_process : AlgorithmWorldState → ℕ → AlgorithmCall → Result AlgorithmProcess AlgorithmRefusal
start_of_process w p call = do
  process ← process_of w p
  process_after_start w.algorithm (constants_of w p) process call

-- the world after a process has come to the first access of its call, from the place at which the call begins
abbrev pub begun_call : AlgorithmWorldState → ℕ → ℕ → Result AlgorithmWorldState AlgorithmRefusal
begun_call w p entry = do
  process ← process_of w p
  begun ← begun_from w.algorithm (constants_of w p) entry (lasting_names w.algorithm.lasting process.store)
  Ok (with_process w p begun)

-- the world after a start
abbrev pub start : AlgorithmWorldState → ℕ → AlgorithmCall → Result AlgorithmWorldState AlgorithmRefusal
start w p call = do
  process ← start_of_process w p call
  Ok (with_process w p process)

-- the world after a crash: the process has lost its place and its names, the words stay
abbrev pub crash : AlgorithmWorldState → ℕ → Result AlgorithmWorldState AlgorithmRefusal
crash w p = do
  process ← process_of w p
  Ok (with_process w p (record { place = Dead; store = no_names }))
