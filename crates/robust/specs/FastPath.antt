-- The fast path of a lock: steps that a member takes in a row, in terms of its views alone.
use Rattle.std.specs.Prelude.{◌≡◌, ℕ, Bool, true, false, if◌then◌else◌, List, [], ◌∷◌, length, None}
use Rattle.rmecore.specs.Place.{Place, Inside, Leaving}
use Rattle.rmecore.specs.Machine.{place_of}
use Rattle.rmecore.specs.declared.stage.Stage.TheVariants.{Wait as AtWait}
use Rattle.redomail.specs.Tasks.{script}
use Rattle.redomail.specs.declared.task.Task.TheVariants.{Check}
use Rattle.rmeworld.specs.declared.answer.Answer.{Answer}
use Rattle.rmeworld.specs.declared.purpose.Purpose.TheVariants.{Checking}
use Rattle.rmeworld.specs.ProcessState.{ProcessState, Free, Doing}
use Rattle.table_runs.specs.declared.entry.TakenStep.{TakenStep}
use Rattle.table_runs.specs.SeatView.{SeatView, process_state_now}
use Rattle.table_runs.specs.Calls.{TakesSteps, answers_of, blocked_of}
use Rattle.table_runs.specs.Under.{Begun}
use Rattle.rmecore.specs.declared.stage.Stage.{Stage}
use Rattle.rmeworld.specs.Refused.{is_waiting}
use Rattle.rmeworld.specs.declared.answer.Answer.TheVariants.{Clean}
use Rattle.rmeworld.specs.declared.call.Call.TheVariants.{Lock}
use Rattle.robust.specs.declared.access.fast_path.Reached.{Reached}
use Rattle.robust.specs.declared.access.fast_path.Reached.TheVariants as Reaches

-- at this place of the lock, with no script under way, in a lock that isn't on its way out of a ruined lock
abbrev pub free_process_state : Place → Bool → ProcessState
free_process_state t b = record { lock = t; mended = b; barred = false; script_state = Free }

-- no crash and no start is pending
abbrev pub IsClear : SeatView → Type 0
IsClear x = (x.fallen ≡ false) × (x.start ≡ None)

-- the same process of the same table
abbrev pub IsSame : SeatView → SeatView → Type 0
IsSame x y = (y.setup ≡ x.setup) × (y.by ≡ x.by)

-- k steps in a row without an answer, m of which were blocked
pub record Unanswered (x : SeatView) (k m : ℕ) (y : SeatView) : Type 0 where
  pub mine : List TakenStep
  pub long : length mine ≡ k
  pub takes : TakesSteps x mine y
  pub answers : answers_of x mine ≡ []
  pub blocked : blocked_of x mine ≡ m

-- a process in the line with this number: i is the first index that was not passed, `looked` whether that process was looked
-- at
abbrev pub waits_at : SeatView → ℕ → ℕ → Bool → ProcessState
waits_at x k i looked = free_process_state (place_of x.setup.layout.procs x.by (AtWait k i looked)) (process_state_now x).mended

-- k steps to a place, none of them blocked, after which nothing is pending
pub record Way (x : SeatView) (k : ℕ) (y : SeatView) (t : Place) : Type 0 where
  pub at : process_state_now y ≡ free_process_state t (process_state_now x).mended
  pub unanswered : Unanswered x k 0 y
  pub clear : IsClear y
  pub same : IsSame x y

-- inside, right before the ruin check after an entry by a lock
abbrev pub checking_process_state : SeatView → ProcessState
checking_process_state x = record { lock = Inside; mended = true; barred = false; script_state = Doing Checking (script x.setup.layout x.by Check) }

-- right after that ruin check
abbrev pub checked_process_state : Bool → ProcessState
checked_process_state ruined = if ruined then record { lock = Leaving; mended = true; barred = true; script_state = Free } else record { lock = Inside; mended = true; barred = false; script_state = Free }

-- k steps in a row, none of them blocked. The last one alone has an answer, a
pub record EndsIn (x : SeatView) (k : ℕ) (a : Answer) (y : SeatView) : Type 0 where
  pub mine : List TakenStep
  pub long : length mine ≡ k
  pub takes : TakesSteps x mine y
  pub answers : answers_of x mine ≡ a ∷ []
  pub blocked : blocked_of x mine ≡ 0

-- How far the fast path of a lock has got in k steps: to a blocked step in the line; to a stage outside the section from
-- where the machine goes on; into the section; or out of it again. It wasn't on its way out of a ruined lock before.
pub record FastPathReaches (x : SeatView) (r : Reached) (k : ℕ) (y : SeatView) : Type 0 where
  pub blocked : (t : Stage) → r ≡ Reaches.Blocked t → (process_state_now y ≡ free_process_state (place_of x.setup.layout.procs x.by t) (process_state_now x).mended) × Unanswered x k 1 y × Begun Lock x.setup.layout.procs (process_state_now y) × (is_waiting (process_state_now y).lock ≡ true)
  pub stands : (t : Stage) → r ≡ Reaches.Stands t → (process_state_now y ≡ free_process_state (place_of x.setup.layout.procs x.by t) (process_state_now x).mended) × Unanswered x k 0 y × Begun Lock x.setup.layout.procs (process_state_now y)
  pub clean : r ≡ Reaches.Clean → (process_state_now y ≡ checked_process_state false) × EndsIn x k Clean y
  pub ruined : r ≡ Reaches.Ruined → (process_state_now y ≡ checked_process_state true) × Unanswered x k 0 y
  pub same : IsSame x y
  pub barred : (process_state_now x).barred ≡ false
