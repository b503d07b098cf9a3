-- "Place" in a whole world: the state of a process. It is a place of the lock and the rest of a script on the data words. It
-- follows from the process's own events alone ("Calls as rows of steps").
use Rattle.std.specs.Prelude.{ℕ, Bool, true, false, ◌&&◌, ◌==◌, nat_lt, length, if◌then◌else◌, Option, Some, None}
use Rattle.rmecore.specs.Place.{Place, Rest, Dead, Reread, Wait, Inside, Leaving, next, place_after_start}
use Rattle.rmecore.specs.World.{step_deed}
use Rattle.rmecore.specs.declared.outer.Outer.{Outer}
use Rattle.rmecore.specs.declared.outer.Outer.TheVariants.{Crash}
use Rattle.rmecore.specs.declared.core_call.CoreCall.TheVariants as core
use Rattle.rmecore.specs.declared.kind.Kind.{Kind}
use Rattle.rmecore.specs.declared.kind.Kind.TheVariants.{Get as Gets, Put as Puts}
use Rattle.rmecore.specs.declared.word.Word.{Word}
use Rattle.rmecore.specs.declared.word.Word.TheVariants.{Data as DataAt}
use Rattle.redomail.specs.declared.layout.Layout.{Layout}
use Rattle.redomail.specs.declared.task.Task.{Task}
use Rattle.redomail.specs.declared.task.Task.TheVariants as task
use Rattle.redomail.specs.declared.reply.Reply.{Reply}
use Rattle.redomail.specs.declared.reply.Reply.TheVariants.{Mended, Ruined}
use Rattle.redomail.specs.Script.{Script, Get as Asks, Put as Writes, Done}
use Rattle.redomail.specs.Tasks.{script, consistent}
use Rattle.rmeworld.specs.Entered.{is_entry}
use Rattle.rmeworld.specs.declared.purpose.Purpose.{Purpose}
use Rattle.rmeworld.specs.declared.purpose.Purpose.TheVariants.{Checking, Ruining, Mending, Working}
use Rattle.rmeworld.specs.declared.call.Call.{Call}
use Rattle.rmeworld.specs.declared.call.Call.TheVariants.{Lock, Unlock, Consistent, Recover, Append, Close, Get, Put, Withdraw}

-- the script state: no job on the data words, or the purpose and the rest of a script
pub data ScriptState : Type 0 where
  Free : ScriptState
  Doing : (purpose : Purpose) → (left : Script Reply) → ScriptState

-- the state of a process
pub record ProcessState : Type 0 where
  pub lock : Place
  -- nothing has to be mended. A holder that entered again is not mended before `consistent` has answered so
  pub mended : Bool
  -- the lock under way has found the lock ruined, and is leaving
  pub barred : Bool
  pub script_state : ScriptState

-- a process at rest
abbrev pub at_rest : ProcessState
at_rest = record { lock = Rest; mended = true; barred = false; script_state = Free }

-- a crash loses all private memory
abbrev pub dead_process : ProcessState
dead_process = record { lock = Dead; mended = true; barred = false; script_state = Free }

-- a world event: the start of a call, a crash, one load or store of one word with its value, or a glance at any word
pub data WorldEvent : Type 0 where
  Begins : (p : ℕ) → (call : Call) → WorldEvent
  Falls : (p : ℕ) → WorldEvent
  Moves : (p : ℕ) → (kind : Kind) → (word : Word) → (value : ℕ) → WorldEvent
  Glances : (p : ℕ) → (word : Word) → (value : ℕ) → WorldEvent

-- the process of an event
abbrev pub who : WorldEvent → ℕ
who (Begins p call) = p
who (Falls p) = p
who (Moves p kind word v) = p
who (Glances p word v) = p

-- the end of a script: the place, inside or at the start of the exit
abbrev pub end_place : Purpose → Reply → Place
end_place Checking (Ruined true) = Leaving
end_place Ruining _ = Leaving
end_place _ _ = Inside

-- the end of a script: whether the holder is mended
abbrev pub end_mended : Purpose → Bool → Reply → Bool
end_mended Mending b (Mended repaired) = true
end_mended _ b _ = b

-- the end of a script: whether the lock was found ruined
abbrev pub end_barred : Purpose → Bool → Reply → Bool
end_barred Checking c (Ruined true) = true
end_barred _ c _ = c

-- the process state with this rest of a script
abbrev pub process_after_script : Bool → Bool → Purpose → Script Reply → ProcessState
process_after_script b c purpose (Done a) = record { lock = end_place purpose a; mended = end_mended purpose b a; barred = end_barred purpose c a; script_state = Free }
process_after_script b c purpose (Asks i rest) = record { lock = Inside; mended = b; barred = c; script_state = Doing purpose (Asks i rest) }
process_after_script b c purpose (Writes i v rest) = record { lock = Inside; mended = b; barred = c; script_state = Doing purpose (Writes i v rest) }

-- the ruin check comes after an entry by a lock, from the place before and the place after
abbrev pub script_state_entered : Layout → ℕ → Place → Place → ScriptState
script_state_entered l p s t = if is_entry s t then Doing Checking (script l p task.Check) else Free

-- a process that enters again is not mended
abbrev pub mended_at : Bool → Place → Place → Bool
mended_at b Inside (Wait k unpassed looked) = true
mended_at b Inside (Reread call seen) = false
mended_at b _ _ = b

abbrev pub mended_entered : Bool → Place → Place → Bool
mended_entered b s t = mended_at b t s

-- the process state after a step of the lock's part from one place to another
abbrev pub at_lock : Layout → ℕ → Place → Bool → Bool → Option Place → Option ProcessState
at_lock l p s b c None = None
at_lock l p s b c (Some t) = Some (record { lock = t; mended = mended_entered b s t; barred = c; script_state = script_state_entered l p s t })

-- the process state, if the test holds
abbrev pub only_process_state : Bool → ProcessState → Option ProcessState
only_process_state b process_state = if b then Some process_state else None

-- the process state after a step: of the lock's part, or of the script, which allows its next access alone
abbrev pub moved_by : Layout → ℕ → ℕ → Place → Bool → Bool → ScriptState → Kind → Word → ℕ → Option ProcessState
moved_by l limit p s b c Free kind word v = at_lock l p s b c (next l.procs limit p s kind word v)
moved_by l limit p s b c (Doing purpose (Asks j rest)) Gets (DataAt i) v = only_process_state (i == j) (process_after_script b c purpose (rest v))
moved_by l limit p s b c (Doing purpose (Writes j x rest)) Puts (DataAt i) v = only_process_state ((i == j) && (v == x)) (process_after_script b c purpose rest)
moved_by _ _ _ _ _ _ _ _ _ _ = None

-- a script begins inside alone
abbrev pub inside_only : Place → Bool → Bool → Purpose → Script Reply → Option ProcessState
inside_only Inside b fits purpose left = only_process_state fits (record { lock = Inside; mended = b; barred = false; script_state = Doing purpose left })
inside_only _ b fits purpose left = None

-- a call of the mailbox or the board, if its arguments fit
abbrev pub working : Layout → ℕ → Place → Bool → Bool → Task → Option ProcessState
working l p s b fits t = inside_only s b fits (Working t) (script l p t)

-- a start needs an idle process, except a withdraw. An unmended holder puts ruined before it leaves
abbrev pub begun_from : Layout → ℕ → Place → Bool → ScriptState → Call → Option ProcessState
begun_from l p s b Free Lock = at_lock l p s b false (place_after_start s core.Lock)
begun_from l p s b Free Recover = at_lock l p s b false (place_after_start s core.Recover)
begun_from l p s b Free Withdraw = at_lock l p s b false (place_after_start s core.Withdraw)
begun_from l p s true Free Unlock = at_lock l p s true false (place_after_start s core.Unlock)
begun_from l p s false Free Unlock = inside_only s false true Ruining (script l p task.Ruin)
begun_from l p s false Free Consistent = inside_only s false true Mending (consistent l p)
begun_from l p s b Free (Append seq value) = working l p s b (b && (length value == l.width)) (task.Append seq value)
begun_from l p s b Free Close = working l p s b b task.Close
begun_from l p s b Free (Get i) = working l p s b (nat_lt i 4) (task.BoardGet i)
begun_from l p s b Free (Put i v) = working l p s b (nat_lt i 4) (task.BoardPut i v)
begun_from _ _ _ _ _ _ = None

-- the process state after an event of the process, if the event is allowed
abbrev pub next_process_state : Layout → ℕ → ProcessState → WorldEvent → Option ProcessState
next_process_state l limit process_state (Begins p call) = begun_from l p process_state.lock process_state.mended process_state.script_state call
next_process_state l limit process_state (Falls p) = Some dead_process
next_process_state l limit process_state (Moves p kind word v) = moved_by l limit p process_state.lock process_state.mended process_state.barred process_state.script_state kind word v
next_process_state l limit process_state (Glances p word v) = Some process_state

-- the deed of the lock, from the process state before the event
abbrev pub outer_by : ℕ → Place → ScriptState → Kind → ℕ → Option Outer
outer_by p s Free kind v = step_deed p s kind v
outer_by p s _ kind v = None

-- the deed of the lock of an event
abbrev pub lock_deed : ProcessState → WorldEvent → Option Outer
lock_deed process_state (Begins p call) = None
lock_deed process_state (Falls p) = Some (Crash p)
lock_deed process_state (Moves p kind word v) = outer_by p process_state.lock process_state.script_state kind v
lock_deed process_state (Glances p word v) = None
