-- The steps that a call has taken in a process state, blocked ones not counted. Together with the steps still to take they
-- are the number in the table of own steps.
use Rattle.std.specs.Prelude.{◌≡◌, ℕ, ◌+◌, Bool, true, false, if◌then◌else◌, Option, Some, None}
use Rattle.rmecore.specs.Paid.{Pays}
use Rattle.rmecore.specs.Place.{Place}
use Rattle.rmecore.specs.declared.core_call.CoreCall.{CoreCall}
use Rattle.rmecore.specs.declared.core_call.CoreCall.TheVariants as core_call
use Rattle.rmecore.specs.declared.core_done.CoreDone.{CoreDone}
use Rattle.rmecore.specs.declared.core_done.CoreDone.TheVariants.{In, InAgain}
use Rattle.rmecore.specs.declared.own.Own.{Own}
use Rattle.redomail.specs.Script.{Script, Get as Asks, Put as Writes, Done}
use Rattle.redomail.specs.declared.layout.Layout.{Layout}
use Rattle.redomail.specs.declared.reply.Reply.{Reply}
use Rattle.rmeworld.specs.ScriptStates.{HasStep}
use Rattle.rmeworld.specs.OwnSteps.{and_more, core_steps, mending_steps, task_steps}
use Rattle.rmeworld.specs.ProcessState.{ScriptState, Free, Doing, ProcessState}
use Rattle.rmecore.specs.Named.{lock_part}
use Rattle.rmeworld.specs.declared.purpose.Purpose.{Purpose}
use Rattle.rmeworld.specs.declared.purpose.Purpose.TheVariants.{Checking, Ruining, Mending, Working}

-- a script that has taken this number of steps ends with exactly the number for its reply, whatever it reads
abbrev pub Costs : (Reply → Option ℕ) → Script Reply → ℕ → Type 0
Costs table (Asks i rest) steps = (v : ℕ) → Costs table (rest v) (steps + 1)
Costs table (Writes i v rest) steps = Costs table rest (steps + 1)
Costs table (Done reply) steps = table reply ≡ Some steps

-- the core's answer to a lock that entered: in line, and then it is mended, or again after a crash inside
abbrev pub entry_of : Bool → CoreDone
entry_of mended = if mended then In else InAgain

-- the steps of a lock up to the end of its ruin check
abbrev pub checked_steps : Layout → Own → Bool → Option ℕ
checked_steps l began mended = and_more 1 (core_steps l began (entry_of mended))

-- the steps of a call up to the end of its script, by the reply
abbrev pub script_steps : Layout → Own → Bool → Purpose → Reply → Option ℕ
script_steps l began mended Checking reply = checked_steps l began mended
script_steps l began mended Ruining reply = if mended then None else Some 1
script_steps l began mended Mending reply = mending_steps l reply
script_steps l began mended (Working t) reply = task_steps l t reply

-- the steps of a call before its exit: those of a lock that found the lock ruined, or the put of a holder that ruins
abbrev pub before_exit : Layout → Own → Bool → Bool → Option ℕ
before_exit l began mended true = checked_steps l began mended
before_exit l began mended false = Some (if mended then 0 else 1)

abbrev pub PaysCore : Layout → Own → Place → ℕ → Type 0
PaysCore l began s steps = Pays l.procs began.choosing began.number began.inside s steps

-- the steps before the exit, and those of the exit so far
abbrev pub Exits : Layout → Own → Option ℕ → Place → ℕ → Type 0
Exits l began None s steps = ⊥
Exits l began (Some before) s steps = (x : ℕ) × PaysCore l began s x × (steps ≡ before + x)

-- the lock's part of a call. Where no call is under way it says nothing
abbrev pub PaysPart : Layout → Own → Option CoreCall → Place → Bool → Bool → ℕ → Type 0
PaysPart l began None s mended barred steps = Unit {0}
PaysPart l began (Some core_call.Unlock) s mended barred steps = Exits l began (before_exit l began mended barred) s steps
PaysPart l began (Some _) s mended barred steps = (barred ≡ false) × PaysCore l began s steps

abbrev pub PaysBy : Layout → Own → Place → Bool → Bool → ScriptState → ℕ → Type 0
PaysBy l began s mended barred Free steps = PaysPart l began (lock_part s) s mended barred steps
PaysBy l began s mended barred (Doing purpose left) steps = (barred ≡ false) × HasStep left × Costs (script_steps l began mended purpose) left steps

-- the call under way in this process state, begun with these words, has taken this number of steps
abbrev pub PaysAt : Layout → Own → ProcessState → ℕ → Type 0
PaysAt l began process_state steps = PaysBy l began process_state.lock process_state.mended process_state.barred process_state.script_state steps
