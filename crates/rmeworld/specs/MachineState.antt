-- The machine state of one process: the code's process as contracts see it, and its next step.
use Rattle.std.specs.Prelude.{◌≡◌, ℕ, ◌<◌, ◌≤◌, Bool, true, false, if◌then◌else◌, [], Option, Some, None, IsSome, unwrap_or}
use Rattle.rmecore.specs.Place.{Place, Rest, Dead, Reread, Leaving, Withdrawing}
use Rattle.rmecore.specs.World.{is_store}
use Rattle.rmecore.specs.Machine.{Standing, next_access as lock_access, after_access, access, kind_of, word_of, carried_value, owner, InLock}
use Rattle.rmecore.specs.declared.access.Access.{Access}
use Rattle.rmecore.specs.declared.access.Access.TheVariants.{Load, Store}
use Rattle.rmecore.specs.declared.core_call.CoreCall.TheVariants as core
use Rattle.rmecore.specs.declared.kind.Kind.TheVariants.{Get as Gets, Put as Puts}
use Rattle.rmecore.specs.declared.progress.Progress.{Progress}
use Rattle.rmecore.specs.declared.word.Word.{Word}
use Rattle.rmecore.specs.declared.word.Word.TheVariants.{Data as DataAt}
use Rattle.redomail.specs.declared.layout.Layout.{Layout}
use Rattle.redomail.specs.declared.reply.Reply.{Reply}
use Rattle.redomail.specs.Layout.{IsLayout}
use Rattle.redomail.specs.Left.{Pending, script_left, pending_task, mending, job_after_word}
use Rattle.redomail.specs.declared.task.Task.TheVariants as task
use Rattle.redomail.specs.Script.{Script, Get as Asks, Put as Writes, Done}
use Rattle.rmeworld.specs.declared.outcome.Outcome.{Outcome}
use Rattle.rmeworld.specs.declared.call.Call.{Call}
use Rattle.rmeworld.specs.declared.call.Call.TheVariants as call
use Rattle.rmeworld.specs.declared.script_state.ScriptState.{ScriptState as Chore}
use Rattle.rmeworld.specs.declared.script_state.ScriptState.TheVariants.{Free as IsFree, Doing as Does}
use Rattle.rmeworld.specs.declared.purpose.Purpose.{Purpose}
use Rattle.rmeworld.specs.declared.purpose.Purpose.TheVariants.{Checking, Ruining, Mending, Working}
use Rattle.rmeworld.specs.ProcessState.{ScriptState, Free, Doing, ProcessState, WorldEvent, Moves, next_process_state, outer_by, mended_entered, end_place, end_mended, end_barred}
use Rattle.rmeworld.specs.ScriptStates.{script_state_of}
use Rattle.rmeworld.specs.Entered.{is_entry}
use Rattle.rmeworld.specs.Purposes.{task_of}
use Rattle.rmeworld.specs.Answered.{answer_at, done_by, blocked_by}

-- the machine of process `index`, in a world of these sizes
pub record MachineState : Type 0 where
  pub layout : Layout
  pub limit : ℕ
  pub index : ℕ
  pub lock : Place
  pub mended : Bool
  pub barred : Bool
  pub script_state : Chore

-- its process state
abbrev pub process_state_of : MachineState → ProcessState
process_state_of s = record { lock = s.lock; mended = s.mended; barred = s.barred; script_state = script_state_of s.script_state }

-- at rest
abbrev pub resting : Layout → ℕ → ℕ → MachineState
resting l limit p = record { layout = l; limit = limit; index = p; lock = Rest; mended = true; barred = false; script_state = IsFree }

-- after a crash
abbrev pub machine_after_crash : MachineState → MachineState
machine_after_crash s = record s { lock = Dead; mended = true; barred = false; script_state = IsFree }

-- "Limits": the sizes of a world
pub record IsSize (l : Layout) : Type 0 where
  pub layout : IsLayout l
  pub procs : 0 < l.procs
  pub cap : 0 < l.cap

-- the lock's part of it
abbrev pub standing : MachineState → Standing
standing s = record { procs = s.layout.procs; limit = s.limit; index = s.index; place = s.lock }

-- the next access: the script's, or the lock's
abbrev pub access_by : ℕ → ℕ → Place → ScriptState → Option Access
access_by limit p s Free = access limit p s
access_by limit p s (Doing purpose (Asks i rest)) = Some (Load Gets (DataAt i))
access_by limit p s (Doing purpose (Writes i v rest)) = Some (Store Puts (DataAt i) v)
access_by limit p s (Doing purpose (Done reply)) = None

-- the next access of a machine
abbrev pub next_access : MachineState → Option Access
next_access s = access_by s.limit s.index s.lock (script_state_of s.script_state)

-- the world event of an access, with the value that was read
abbrev pub world_event : MachineState → Access → ℕ → WorldEvent
world_event s a v = Moves s.index (kind_of a) (word_of a) (carried_value a v)

-- the process state after the step, by the definition
abbrev pub after_at : Layout → ℕ → ℕ → ProcessState → Option Access → ℕ → ProcessState
after_at l limit p process_state None v = process_state
after_at l limit p process_state (Some a) v = unwrap_or (next_process_state l limit process_state (Moves p (kind_of a) (word_of a) (carried_value a v))) process_state

-- the same for a machine
abbrev pub process_state_after : MachineState → Option Access → ℕ → ProcessState
process_state_after s o v = after_at s.layout s.limit s.index (process_state_of s) o v

abbrev pub progress_by : ℕ → ProcessState → Access → ℕ → Progress
progress_by p process_state a v =
    record {
      outer = outer_by p process_state.lock process_state.script_state (kind_of a) (carried_value a v);
      done = done_by process_state.lock process_state.script_state (kind_of a) (carried_value a v);
      blocked = blocked_by p process_state.lock process_state.script_state (kind_of a) (carried_value a v);
    }

-- the effects of the step
abbrev pub outcome : MachineState → Option Access → ℕ → Outcome
outcome s None v = record { progress = record { outer = None; done = None; blocked = false }; answer = None }
outcome s (Some a) v = record { progress = progress_by s.index (process_state_of s) a v; answer = answer_at (process_state_of s) (kind_of a) (carried_value a v) }

-- the definition allows the access, whatever a load reads
abbrev pub IsAllowed : MachineState → Access → Type 0
IsAllowed s a = (v : ℕ) → IsSome (next_process_state s.layout s.limit (process_state_of s) (world_event s a v))

-- the next step may not touch a word of a lesser owner
abbrev pub IsLeast : MachineState → Access → Type 0
IsLeast s a = (word : Word) (v : ℕ) → IsSome (next_process_state s.layout s.limit (process_state_of s) (Moves s.index (kind_of a) word v)) → owner (word_of a) ≤ owner word

-- a lock word of one of n processes, or a data word
abbrev pub InWords : ℕ → Word → Type 0
InWords n (DataAt i) = Unit {0}
InWords n word = InLock n word

-- a lock word of p, or a data word
abbrev pub IsOwnWord : ℕ → Word → Type 0
IsOwnWord p (DataAt i) = Unit {0}
IsOwnWord p word = owner word ≡ p

-- a load has a kind that loads. A store has a kind that stores, and its word is a data word or the process's own lock word
abbrev pub StoresOwn : ℕ → Access → Type 0
StoresOwn p (Load kind word) = is_store kind ≡ false
StoresOwn p (Store kind word x) = (is_store kind ≡ true) × IsOwnWord p word

-- The machine exactly: its state after a step and after a start. The contracts of these calls say that it is the
-- definition's process state.

-- after a step of the lock's part to place t
abbrev pub lock_moved : MachineState → Place → MachineState
lock_moved s t =
    record s {
      lock = t;
      mended = mended_entered s.mended s.lock t;
      script_state = if is_entry s.lock t then Does Checking (pending_task s.layout s.index task.Check) else IsFree;
    }

-- after a script that ends with this reply
abbrev pub ended_by : MachineState → Purpose → Reply → MachineState
ended_by s purpose reply = record s { lock = end_place purpose reply; mended = end_mended purpose s.mended reply; barred = end_barred purpose s.barred reply; script_state = IsFree }

-- with the rest of this job, or after its reply
abbrev pub job_left : MachineState → Purpose → Pending → Script Reply → MachineState
job_left s purpose job (Done reply) = ended_by s purpose reply
job_left s purpose job _ = record s { script_state = Does purpose job }

abbrev pub stepped_by : MachineState → Chore → ℕ → MachineState
stepped_by s IsFree v = lock_moved s (after_access (standing s) (lock_access (standing s)) v)
stepped_by s (Does purpose job) v = job_left s purpose (job_after_word job v) (script_left (job_after_word job v))

-- after the next step, with the value that was read
abbrev pub machine_after_step : MachineState → ℕ → MachineState
machine_after_step s v = stepped_by s s.script_state v

-- with the script of this purpose begun
abbrev pub works : MachineState → Purpose → MachineState
works s purpose = record s { script_state = Does purpose (pending_task s.layout s.index (task_of purpose)) }

-- at the start of a new call
abbrev pub unbarred_machine : MachineState → MachineState
unbarred_machine s = record s { barred = false }

-- with the lock's part at this place
abbrev pub machine_at_place : MachineState → Place → MachineState
machine_at_place s t = record (unbarred_machine s) { lock = t }

-- after a start that is not refused
abbrev pub machine_after_start : MachineState → Call → MachineState
machine_after_start s call.Lock = machine_at_place s (Reread core.Lock [])
machine_after_start s call.Recover = machine_at_place s (Reread core.Recover [])
machine_after_start s call.Withdraw = machine_at_place s Withdrawing
machine_after_start s call.Unlock = if s.mended then machine_at_place s Leaving else works (unbarred_machine s) Ruining
machine_after_start s call.Consistent = record (unbarred_machine s) { script_state = Does Mending (mending s.layout s.index) }
machine_after_start s (call.Append seq value) = works (unbarred_machine s) (Working (task.Append seq value))
machine_after_start s call.Close = works (unbarred_machine s) (Working task.Close)
machine_after_start s (call.Get i) = works (unbarred_machine s) (Working (task.BoardGet i))
machine_after_start s (call.Put i v) = works (unbarred_machine s) (Working (task.BoardPut i v))
