-- The call under way in a process state.
use Rattle.std.specs.Prelude.{Bool, true, false, Option, Some, None}
use Rattle.rmecore.specs.Named.{lock_part}
use Rattle.rmecore.specs.Place.{Place}
use Rattle.rmecore.specs.declared.core_call.CoreCall.{CoreCall}
use Rattle.rmecore.specs.declared.core_call.CoreCall.TheVariants as core
use Rattle.redomail.specs.declared.task.Task.{Task}
use Rattle.redomail.specs.declared.task.Task.TheVariants as task
use Rattle.rmeworld.specs.declared.call.Call.{Call}
use Rattle.rmeworld.specs.declared.call.Call.TheVariants.{Lock, Unlock, Consistent, Recover, Append, Close, Get, Put, Withdraw}
use Rattle.rmeworld.specs.declared.purpose.Purpose.{Purpose}
use Rattle.rmeworld.specs.declared.purpose.Purpose.TheVariants.{Checking, Ruining, Mending, Working}
use Rattle.rmeworld.specs.ProcessState.{ScriptState, Free, Doing, ProcessState}

-- the call that it belongs to. A lock that found the lock ruined takes the exit too
abbrev pub part_call : Option CoreCall → Bool → Option Call
part_call None barred = None
part_call (Some core.Lock) barred = Some Lock
part_call (Some core.Recover) barred = Some Recover
part_call (Some core.Withdraw) barred = Some Withdraw
part_call (Some core.Unlock) true = Some Lock
part_call (Some core.Unlock) false = Some Unlock

-- the call of a task, and of a script's purpose
abbrev pub task_call : Task → Option Call
task_call (task.Append seq value) = Some (Append seq value)
task_call task.Close = Some Close
task_call (task.BoardGet i) = Some (Get i)
task_call (task.BoardPut i v) = Some (Put i v)
task_call _ = None

abbrev pub purpose_call : Purpose → Option Call
purpose_call Checking = Some Lock
purpose_call Ruining = Some Unlock
purpose_call Mending = Some Consistent
purpose_call (Working t) = task_call t

abbrev pub call_by : Place → Bool → ScriptState → Option Call
call_by s barred Free = part_call (lock_part s) barred
call_by s barred (Doing purpose left) = purpose_call purpose

-- no call is under way at rest, after a crash, or inside without a job
abbrev pub call_at : ProcessState → Option Call
call_at process_state = call_by process_state.lock process_state.barred process_state.script_state
