-- The fast path of an append: what is left of its script after some steps, in terms of the member's views alone.
use Rattle.std.specs.Prelude.{◌≡◌, ℕ, true, false, List, drop}
use Rattle.redomail.specs.declared.reply.Reply.{Reply}
use Rattle.redomail.specs.declared.reply.Reply.TheVariants.{Stored}
use Rattle.redomail.specs.declared.task.Task.TheVariants as task
use Rattle.redomail.specs.Script.{Script, Get as Asks, Put as Writes, Done, puts}
use Rattle.redomail.specs.Tasks.{append, record_of, store_steps}
use Rattle.rmeworld.specs.declared.answer.Answer.TheVariants.{Mail}
use Rattle.rmeworld.specs.declared.purpose.Purpose.TheVariants.{Working}
use Rattle.rmeworld.specs.ProcessState.{ProcessState, process_after_script}
use Rattle.table_runs.specs.SeatView.{SeatView}
use Rattle.robust.specs.declared.access.fast_append.NewEntry.{NewEntry}
use Rattle.robust.specs.FastPath.{Unanswered, EndsIn}

-- a holder with nothing to mend, with this script of an append left; if the script is done, it is inside with no call under
-- way
abbrev pub at_append : ℕ → List ℕ → Script Reply → ProcessState
at_append seq value left = process_after_script true false (Working (task.Append seq value)) left

-- right after the start of the append
abbrev pub append_begun : SeatView → ℕ → List ℕ → ProcessState
append_begun x seq value = at_append seq value (append x.setup.layout x.by seq value)

-- k steps in a row, none of them blocked, after which this script is left. They have no answer; if the script is done, the
-- last of them alone has one, its reply.
abbrev pub HasLeft : SeatView → ℕ → Script Reply → SeatView → Type 0
HasLeft x k (Done reply) y = EndsIn x k (Mail reply) y
HasLeft x k (Asks i rest) y = Unanswered x k 0 y
HasLeft x k (Writes i v rest) y = Unanswered x k 0 y

-- the process is the sender of this entry, in its arena
abbrev pub IsSenderOf : SeatView → NewEntry → Type 0
IsSenderOf x e = (x.setup ≡ e.setup) × (x.by ≡ e.own)

-- the puts that store it
abbrev pub steps_of : NewEntry → List (ℕ × ℕ)
steps_of e = store_steps e.setup.layout e.own (record_of e.at e.seq e.value)

-- the storing append of this entry, with its first k puts done
abbrev pub stored_so_far : NewEntry → ℕ → ProcessState
stored_so_far e k = at_append e.seq e.value (puts (drop k (steps_of e)) (Done Stored))
