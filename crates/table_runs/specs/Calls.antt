-- What a call leaves: the caller's own entries, its answers and its blocked readings.
use Rattle.std.specs.Prelude.{◌≡◌, ℕ, ◌+◌, ◌⊎◌, Bool, true, false, if◌then◌else◌, List, [], ◌∷◌, length, Option, Some, None, All}
use Rattle.rmeworld.specs.declared.call.Call.{Call}
use Rattle.rmeworld.specs.declared.answer.Answer.{Answer}
use Rattle.rmecore.specs.Paid.{is_glance}
use Rattle.rmeworld.specs.ProcessState.{ProcessState}
use Rattle.rmeworld.specs.Answered.{answer_at, blocked_by}
use Rattle.rmeworld.specs.Refused.{is_idle, is_waiting}
use Rattle.table_runs.specs.declared.setup.Setup.{Setup}
use Rattle.table_runs.specs.declared.entry.TakenStep.{TakenStep}
use Rattle.table_runs.specs.Runs.{before, world_events, process_state_past, process_state_of}
use Rattle.table_runs.specs.SeatView.{SeatView, process_state_now, next_entry, CarriesPending, Calls}
use Rattle.table_runs.specs.WorkingMembers.{Seated, fell}
use Rattle.crash_plans.specs.Plans.{many_more}
use Rattle.table_runs.specs.StepBounds.{Lasts}
use Rattle.table_runs.specs.Under.{IsUnder, IsAnswerOf, Leaves}
use Rattle.rmeworld.specs.declared.call.Call.TheVariants.{Lock}
use Rattle.rmeworld.specs.CallWalk.{and_answer}

-- the state of a process right before the step of one of its entries
abbrev pub process_state_before : Setup → ProcessState → TakenStep → ProcessState
process_state_before s process_state e = process_state_past s process_state (before e.step.crashed e.step.start e.by)

-- the answers of one process's entries, from its state before them
abbrev pub answers_from : Setup → ProcessState → List TakenStep → List Answer
answers_from s process_state [] = []
answers_from s process_state (e ∷ es) = and_answer (answer_at (process_state_before s process_state e) e.step.kind e.value) (answers_from s (process_state_past s process_state (world_events e)) es)

-- the entry is blocked in this process state
abbrev pub is_blocked_at : ProcessState → TakenStep → Bool
is_blocked_at process_state e = blocked_by e.by process_state.lock process_state.script_state e.step.kind e.value

-- how many of the entries were blocked
abbrev pub blocked_from : Setup → ProcessState → List TakenStep → ℕ
blocked_from s process_state [] = 0
blocked_from s process_state (e ∷ es) = (if is_blocked_at (process_state_before s process_state e) e then 1 else 0) + blocked_from s (process_state_past s process_state (world_events e)) es

-- one more call in front, if there is one
abbrev pub and_call : Option Call → List Call → List Call
and_call None calls = calls
and_call (Some c) calls = c ∷ calls

-- the calls that the entries started
abbrev pub starts : List TakenStep → List Call
starts [] = []
starts (e ∷ es) = and_call e.step.start (starts es)

-- the first entry carries the start of this call, the others carry none
abbrev pub FirstStart : Call → List TakenStep → Type 0
FirstStart call [] = ⊥
FirstStart call (e ∷ es) = (e.step.start ≡ Some call) × All (λ (f : TakenStep). f.step.start ≡ None) es

-- the first entry carries the start of this call
abbrev pub StartsWith : Call → List TakenStep → Type 0
StartsWith call [] = ⊥
StartsWith call (e ∷ es) = e.step.start ≡ Some call

-- where these calls are started: a single call in the first entry alone, several calls from the first entry on
abbrev pub FirstStarts : List Call → List TakenStep → Type 0
FirstStarts [] es = Unit {0}
FirstStarts (call ∷ []) es = FirstStart call es
FirstStarts (call ∷ next ∷ more) es = StartsWith call es

-- no entry is a glance
abbrev pub AreMoves : List TakenStep → Type 0
AreMoves es = All (λ (e : TakenStep). is_glance e.step.kind ≡ false) es

-- the first entry carries a crash if c is true, and no other one does
abbrev pub FirstCrash : Bool → List TakenStep → Type 0
FirstCrash c [] = Unit {0}
FirstCrash c (e ∷ es) = (e.step.crashed ≡ c) × All (λ (f : TakenStep). f.step.crashed ≡ false) es

-- the answers of a view's later own entries
abbrev pub answers_of : SeatView → List TakenStep → List Answer
answers_of x mine = answers_from x.setup (process_state_of x.setup x.by x.seen) mine

-- the number of blocked steps among a view's later own entries
abbrev pub blocked_of : SeatView → List TakenStep → ℕ
blocked_of x mine = blocked_from x.setup (process_state_of x.setup x.by x.seen) mine

-- steps in a row, none a glance. Each carries the pending crash and start
abbrev pub TakesSteps : SeatView → List TakenStep → SeatView → Type 0
TakesSteps x [] y = y ≡ x
TakesSteps x (e ∷ es) y =
    (z : SeatView) × (e ≡ next_entry x e.step.kind e.step.word e.value) × CarriesPending x e.step.kind e.step.word e.value z × TakesSteps z es y × (is_glance e.step.kind ≡ false)

-- the blocked readings of steps that end with an answer (none), or with a blocked reading (one)
abbrev pub blocks : Option Answer → ℕ
blocks None = 1
blocks (Some a) = 0

-- steps of a call up to its answer, or up to a blocked reading
pub record Ran (x : Seated) (o : Option Answer) (y : Seated) (mine : List TakenStep) : Type 0 where
  pub takes : TakesSteps x.seat_view mine y.seat_view
  pub answers : answers_of x.seat_view mine ≡ and_answer o []
  pub blocked : blocked_of x.seat_view mine ≡ blocks o
  pub steps : y.steps ≡ many_more (length mine) x.steps

-- steps of a call that has no answer yet
pub record Going (x : Seated) (mine : List TakenStep) (y : Seated) : Type 0 where
  pub takes : TakesSteps x.seat_view mine y.seat_view
  pub answers : answers_of x.seat_view mine ≡ []
  pub blocked : blocked_of x.seat_view mine ≡ 0
  pub steps : y.steps ≡ many_more (length mine) x.steps

-- steps of a call, then a crash
pub record CutOff (x : Seated) (mine : List TakenStep) (y : Seated) : Type 0 where
  pub last : Seated
  pub takes : TakesSteps x.seat_view mine last.seat_view
  pub steps : last.steps ≡ many_more (length mine) x.steps
  pub crash : y ≡ fell last

-- the state after some steps of a call: an answer that fits the call, in the state that it leaves; or a lock that waits in
-- the line
abbrev pub Still : Call → Seated → Option Answer → Type 0
Still call y (Some a) = IsAnswerOf call a × Leaves call a (process_state_now y.seat_view)
Still call y None = (call ≡ Lock) × IsUnder call (process_state_now y.seat_view) × (is_idle (process_state_now y.seat_view) ≡ false) × Lasts y.seat_view.setup.layout.procs 256 (process_state_now y.seat_view) × (is_waiting (process_state_now y.seat_view).lock ≡ true)

-- Calls in a row. The run so far begins with all that the caller had seen, ends with the last call, and has just the entries
-- `mine` of the caller. The first entry carries a pending crash, the first entry of each call its start, and none is a
-- glance. The record also has their answers, the number of blocked readings and of own steps.
pub record ServedAll (x : Seated) (order : List Call) (answers : List Answer) (blocked : ℕ) (y : Seated) (mine : List TakenStep) : Type 0 where
  pub calls : Calls x.seat_view mine y.seat_view
  pub crash : FirstCrash x.seat_view.fallen mine
  pub started : starts mine ≡ order
  pub first : FirstStarts order mine
  pub moves : AreMoves mine
  pub answered : answers_of x.seat_view mine ≡ answers
  pub blocks : blocked_of x.seat_view mine ≡ blocked
  pub steps : y.steps ≡ many_more (length mine) x.steps
  pub alive : y.seat_view.fallen ≡ false
  pub idle : y.seat_view.start ≡ None

-- one call
abbrev pub Served : Seated → Call → List Answer → ℕ → Seated → List TakenStep → Type 0
Served x call answers blocked y mine = ServedAll x (call ∷ []) answers blocked y mine

-- Calls that a crash cut off, before their first step, between two steps, or after their last: the next step carries the
-- crash. `Begun` holds of the calls that were started.
pub record CrashesIn (x : Seated) (Begun : List Call → Type 0) (y : Seated) (mine : List TakenStep) : Type 0 where
  pub calls : Calls x.seat_view mine y.seat_view
  pub unmoved : mine ≡ [] → y.seat_view.seen ≡ x.seat_view.seen
  pub crash : FirstCrash x.seat_view.fallen mine
  pub started : (mine ≡ []) ⊎ Begun (starts mine)
  pub steps : y.steps ≡ many_more (length mine) x.steps
  pub fallen : y.seat_view.fallen ≡ true
  pub idle : y.seat_view.start ≡ None

-- one call
abbrev pub Crashes : Seated → Call → Seated → List TakenStep → Type 0
Crashes x call y mine = CrashesIn x (λ (order : List Call). order ≡ call ∷ []) y mine

-- steps of a lock that has been blocked k times so far
pub record Turning (x : Seated) (mine : List TakenStep) (k : ℕ) (y : Seated) : Type 0 where
  pub takes : TakesSteps x.seat_view mine y.seat_view
  pub answers : answers_of x.seat_view mine ≡ []
  pub blocked : blocked_of x.seat_view mine ≡ k
  pub steps : y.steps ≡ many_more (length mine) x.steps
