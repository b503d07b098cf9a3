-- What a contract sees of a member's seat: its view, and the pending events that its next step carries.
use Rattle.std.specs.Prelude.{◌≡◌, ℕ, ◌-◌, ◌<◌, ◌≤◌, ◌^◌, Bool, false, List, [], ◌∷◌, ◌++◌, Option, None}
use Rattle.atomic_table.specs.Seated.{TableId}
use Rattle.rmecore.specs.declared.kind.Kind.{Kind}
use Rattle.rmecore.specs.declared.kind.Kind.TheVariants.{Glance}
use Rattle.rmecore.specs.declared.word.Word.{Word}
use Rattle.rmeworld.specs.declared.call.Call.{Call}
use Rattle.rmeworld.specs.ProcessState.{ProcessState, next_process_state}
use Rattle.rmeworld.specs.MachineState.{IsSize}
use Rattle.table_runs.specs.declared.setup.Setup.{Setup}
use Rattle.table_runs.specs.declared.entry.Step.{Step}
use Rattle.table_runs.specs.declared.entry.TakenStep.{TakenStep}
use Rattle.table_runs.specs.declared.entry.View.{View}
use Rattle.table_runs.specs.declared.entry.SeatKnowledge.{SeatKnowledge}
use Rattle.table_runs.specs.Runs.{entries_of, IsRun, before, access_event, process_state_past, process_state_of, AllowsEvents, word_count}
use Rattle.table_runs.specs.Rule.{count_from}

-- A member's view: the table, its sizes, the process; whether the process has crashed since its last step; the call that it
-- has started since; and a prefix of the run.
pub record SeatView : Type 0 where
  pub table : TableId
  pub setup : Setup
  pub by : ℕ
  pub fallen : Bool
  pub start : Option Call
  pub seen : List TakenStep

-- a member's view, as the rule of the table has it
abbrev pub view_of : SeatView → View
view_of x = record { setup = x.setup; answers = x.by ∷ []; seen = x.seen }

-- a seat of one process, into which no other seat was joined
abbrev pub single_seat : Setup → ℕ → List TakenStep → SeatKnowledge
single_seat s p seen = record { view = record { setup = s; answers = p ∷ []; seen = seen }; reports = [] }

-- the seat that answers for the processes from p on, before any step
abbrev pub rest_known : Setup → ℕ → SeatKnowledge
rest_known s p = record { view = record { setup = s; answers = count_from p (s.layout.procs - p); seen = [] }; reports = [] }

-- a member before any step
abbrev pub new_seat_view : TableId → Setup → ℕ → SeatView
new_seat_view t s p = record { table = t; setup = s; by = p; fallen = false; start = None; seen = [] }

-- the caller's own entries
abbrev pub own_of : SeatView → List TakenStep
own_of x = entries_of x.by x.seen

-- what the next step carries: the pending crash and start
abbrev pub pending_events : SeatView → Kind → Word → Step
pending_events x kind word = record { crashed = x.fallen; start = x.start; kind = kind; word = word }

-- the entry of the next step, with this value
abbrev pub next_entry : SeatView → Kind → Word → ℕ → TakenStep
next_entry x kind word value = record { by = x.by; step = pending_events x kind word; value = value }

-- a glance carries nothing: the pending events wait for the next other step
abbrev pub glance_step : Word → Step
glance_step word = record { crashed = false; start = None; kind = Glance; word = word }

-- the entry of a glance, with the value that it read
abbrev pub glance_entry : SeatView → Word → ℕ → TakenStep
glance_entry x word value = record { by = x.by; step = glance_step word; value = value }

-- the process state after its pending crash and start
abbrev pub process_state_now : SeatView → ProcessState
process_state_now x = process_state_past x.setup (process_state_of x.setup x.by x.seen) (before x.fallen x.start x.by)

-- the process state after a step
abbrev pub moved_process_state : SeatView → Kind → Word → ℕ → Option ProcessState
moved_process_state x kind word value = next_process_state x.setup.layout x.setup.limit (process_state_now x) (access_event x.by kind word value)

-- what holds of each member's view
pub record IsSeatView (x : SeatView) : Type 0 where
  pub size : IsSize x.setup.layout
  pub limited : (1 ≤ x.setup.limit) × (x.setup.limit ≤ 2 ^ 62)
  pub words : x.table.words ≡ word_count x.setup
  pub below : x.by < x.setup.layout.procs
  pub run : IsRun x.setup x.seen
  pub goes : AllowsEvents x.setup (process_state_of x.setup x.by x.seen) (before x.fallen x.start x.by)

-- xs is empty, or es ends with the last entry of xs
abbrev pub EndsWith : List TakenStep → List TakenStep → Type 0
EndsWith xs es = (front : List TakenStep) (e : TakenStep) → xs ≡ front ++ e ∷ [] → (start : List TakenStep) × (es ≡ start ++ e ∷ [])

-- one step: the run so far begins with all that was seen and ends with the step. In between there is no step of this process
pub record Adds (x : SeatView) (e : TakenStep) (y : SeatView) : Type 0 where
  pub table : y.table ≡ x.table
  pub setup : y.setup ≡ x.setup
  pub by : y.by ≡ x.by
  pub between : List TakenStep
  pub seen : y.seen ≡ (x.seen ++ between) ++ e ∷ []
  pub apart : entries_of x.by between ≡ []
  pub run : IsRun y.setup y.seen

-- a step that carries the pending crash and start
pub record CarriesPending (x : SeatView) (kind : Kind) (word : Word) (value : ℕ) (y : SeatView) : Type 0 where
  pub adds : Adds x (next_entry x kind word value) y
  pub fallen : y.fallen ≡ false
  pub start : y.start ≡ None

-- a glance, which carries nothing
pub record Looks (x : SeatView) (word : Word) (value : ℕ) (y : SeatView) : Type 0 where
  pub adds : Adds x (glance_entry x word value) y
  pub fallen : y.fallen ≡ x.fallen
  pub start : y.start ≡ x.start

-- several steps: the run so far begins with all that was seen and ends with the last of them. In between there are no other
-- steps of this process
pub record Calls (x : SeatView) (mine : List TakenStep) (y : SeatView) : Type 0 where
  pub table : y.table ≡ x.table
  pub setup : y.setup ≡ x.setup
  pub by : y.by ≡ x.by
  pub since : List TakenStep
  pub seen : y.seen ≡ x.seen ++ since
  pub mine_are : entries_of x.by since ≡ mine
  pub last : EndsWith mine y.seen
  pub run : IsRun y.setup y.seen
