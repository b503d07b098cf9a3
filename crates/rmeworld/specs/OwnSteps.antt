-- "Own steps of a call": the steps of a call by its answer, blocked ones not counted. They depend on the caller's words at
-- the call's start. For an unlock they depend on whether the holder was mended. None: such a call never has this answer.
use Rattle.std.specs.Prelude.{ℕ, ◌+◌, ◌*◌, Bool, true, false, if◌then◌else◌, Option, Some, None}
use Rattle.rmecore.specs.OwnSteps.{own_steps as steps_of_core}
use Rattle.rmecore.specs.declared.core_done.CoreDone.{CoreDone}
use Rattle.rmecore.specs.declared.core_done.CoreDone.TheVariants as core
use Rattle.rmecore.specs.declared.own.Own.{Own}
use Rattle.redomail.specs.Laws.{consistent_steps}
use Rattle.redomail.specs.Runs.{steps_of}
use Rattle.redomail.specs.declared.layout.Layout.{Layout}
use Rattle.redomail.specs.declared.task.Task.{Task}
use Rattle.redomail.specs.declared.task.Task.TheVariants as task
use Rattle.redomail.specs.declared.reply.Reply.{Reply}
use Rattle.redomail.specs.declared.reply.Reply.TheVariants as reply
use Rattle.rmeworld.specs.declared.answer.Answer.{Answer}
use Rattle.rmeworld.specs.declared.answer.Answer.TheVariants.{Clean, OwnerDied, NumbersSpent, NotRecoverable, Unlocked, Found, Mail, Withdrawn}
use Rattle.rmeworld.specs.declared.call.Call.{Call}
use Rattle.rmeworld.specs.declared.call.Call.TheVariants.{Lock, Unlock, Consistent, Recover, Append, Close, Get, Put, Withdraw}

-- k more
abbrev pub and_more : ℕ → Option ℕ → Option ℕ
and_more k None = None
and_more k (Some x) = Some (x + k)

-- the first number that exists
abbrev pub either : Option ℕ → Option ℕ → Option ℕ
either None o = o
either (Some x) o = Some x

-- the core's table
abbrev pub core_steps : Layout → Own → CoreDone → Option ℕ
core_steps l began done = steps_of_core l.procs began.choosing began.number began.inside done

-- the replies of a call of the mailbox or the board
abbrev pub is_reply : Task → Reply → Bool
is_reply (task.Append seq value) reply.Stored = true
is_reply (task.Append seq value) reply.Already = true
is_reply (task.Append seq value) reply.OutOfOrder = true
is_reply (task.Append seq value) reply.Full = true
is_reply (task.Append seq value) reply.Closed = true
is_reply task.Close reply.ClosedNow = true
is_reply task.Close reply.AlreadyClosed = true
is_reply (task.BoardGet i) (reply.Word v) = true
is_reply (task.BoardPut i v) reply.Done = true
is_reply _ _ = false

-- the mailbox's table, for a call of the mailbox or the board
abbrev pub task_steps : Layout → Task → Reply → Option ℕ
task_steps l t answer = if is_reply t answer then Some (steps_of l t answer) else None

-- the mailbox's table, for `consistent`
abbrev pub mending_steps : Layout → Reply → Option ℕ
mending_steps l (reply.Mended repaired) = Some (consistent_steps l (reply.Mended repaired))
mending_steps l (reply.Ruined true) = Some (consistent_steps l (reply.Ruined true))
mending_steps l _ = None

-- the table, by the words at the start and whether the holder was mended. After an entry the ruin check adds one step. If it
-- finds the lock ruined, the exit adds two. An unmended holder puts ruined before its exit
abbrev pub own_steps : Layout → Own → Bool → Call → Answer → Option ℕ
own_steps l began mended Lock Clean = and_more 1 (core_steps l began core.In)
own_steps l began mended Lock OwnerDied = and_more 1 (core_steps l began core.InAgain)
own_steps l began mended Lock NotRecoverable = and_more 3 (either (core_steps l began core.In) (core_steps l began core.InAgain))
own_steps l began mended Lock NumbersSpent = core_steps l began core.Spent
own_steps l began mended Recover (Found found) = core_steps l began (core.Found found)
own_steps l began mended Unlock Unlocked = Some (if mended then 2 else 3)
own_steps l began mended Withdraw Withdrawn = core_steps l began core.Withdrawn
own_steps l began mended Consistent NotRecoverable = mending_steps l (reply.Ruined true)
own_steps l began mended Consistent (Mail (reply.Mended repaired)) = mending_steps l (reply.Mended repaired)
own_steps l began mended (Append seq value) (Mail answer) = task_steps l (task.Append seq value) answer
own_steps l began mended Close (Mail answer) = task_steps l task.Close answer
own_steps l began mended (Get i) (Mail answer) = task_steps l (task.BoardGet i) answer
own_steps l began mended (Put i v) (Mail answer) = task_steps l (task.BoardPut i v) answer
own_steps _ _ _ _ _ = None

-- a bound for the steps of such a call
abbrev pub most_steps : Layout → Call → ℕ
most_steps l Lock = 3 * l.procs + 8
most_steps l Recover = 4
most_steps l Unlock = 3
most_steps l Withdraw = 1
most_steps l Consistent = 9 + 2 * l.width
most_steps l (Append seq value) = 11 + 2 * l.width
most_steps l Close = 2
most_steps l (Get i) = 1
most_steps l (Put i v) = 1
