-- "Reply": a step's answer, from the process state before the step and the value read or written.
use Rattle.std.specs.Prelude.{ℕ, Bool, true, false, Option, Some, None}
use Rattle.rmecore.specs.Place.{Place}
use Rattle.rmecore.specs.Machine.{answer, is_blocked}
use Rattle.rmecore.specs.declared.core_done.CoreDone.{CoreDone}
use Rattle.rmecore.specs.declared.core_done.CoreDone.TheVariants as core
use Rattle.rmecore.specs.declared.kind.Kind.{Kind}
use Rattle.redomail.specs.declared.reply.Reply.{Reply}
use Rattle.redomail.specs.declared.reply.Reply.TheVariants.{Ruined}
use Rattle.redomail.specs.Script.{Script, Done, tail}
use Rattle.rmeworld.specs.declared.answer.Answer.{Answer}
use Rattle.rmeworld.specs.declared.answer.Answer.TheVariants.{Clean, OwnerDied, NumbersSpent, NotRecoverable, Unlocked, Found, Mail, Withdrawn}
use Rattle.rmeworld.specs.declared.purpose.Purpose.{Purpose}
use Rattle.rmeworld.specs.declared.purpose.Purpose.TheVariants.{Checking, Ruining, Mending, Working}
use Rattle.rmeworld.specs.ProcessState.{ScriptState, Free, Doing, ProcessState}

-- the answer when the lock's part ends. After an entry by a lock the ruin check comes next. An exit ends an unlock, or a
-- lock that found the lock ruined
abbrev pub by_core : Bool → CoreDone → Option Answer
by_core barred core.In = None
by_core barred core.InAgain = None
by_core barred core.Spent = Some NumbersSpent
by_core false core.Out = Some Unlocked
by_core true core.Out = Some NotRecoverable
by_core barred (core.Found found) = Some (Found found)
by_core barred core.Withdrawn = Some Withdrawn

abbrev pub by_lock : Bool → Option CoreDone → Option Answer
by_lock barred None = None
by_lock barred (Some done) = by_core barred done

-- the answer when a script ends, for a holder that is mended or not. A holder that found or made the lock ruined leaves next
abbrev pub by_reply : Purpose → Bool → Reply → Option Answer
by_reply Checking mended (Ruined true) = None
by_reply Checking true reply = Some Clean
by_reply Checking false reply = Some OwnerDied
by_reply Ruining mended reply = None
by_reply Mending mended (Ruined ruined) = Some NotRecoverable
by_reply Mending mended reply = Some (Mail reply)
by_reply (Working task) mended reply = Some (Mail reply)

-- the answer when this script is left
abbrev pub by_script : Purpose → Bool → Script Reply → Option Answer
by_script purpose mended (Done reply) = by_reply purpose mended reply
by_script purpose mended _ = None

-- the answer of a step, if it is its call's last
abbrev pub answer_by : Place → Bool → Bool → ScriptState → Kind → ℕ → Option Answer
answer_by s b c Free kind v = by_lock c (answer s kind v)
answer_by s b c (Doing purpose left) kind v = by_script purpose b (tail left v)

abbrev pub answer_at : ProcessState → Kind → ℕ → Option Answer
answer_at process_state kind v = answer_by process_state.lock process_state.mended process_state.barred process_state.script_state kind v

-- the core's answer, if its part of the call ends with the step
abbrev pub done_by : Place → ScriptState → Kind → ℕ → Option CoreDone
done_by s Free kind v = answer s kind v
done_by s _ kind v = None

-- "blocked": a look or a weigh that leaves the process state as it is
abbrev pub blocked_by : ℕ → Place → ScriptState → Kind → ℕ → Bool
blocked_by p s Free kind v = is_blocked p s kind v
blocked_by p s _ kind v = false
