-- Which jobs are refused, and why: the first cause in this order.
use Rattle.std.specs.Prelude.{ℕ, Bool, false, not, ◌||◌, ◌==◌, nat_lt, nat_le, length, Option, Some, None, if◌then◌else◌}
use Rattle.rmecore.specs.declared.refusal.Refusal.{Refusal}
use Rattle.rmecore.specs.declared.refusal.Refusal.TheVariants.{BadProcs, BadCap, NoSuchProcess, BadIndex, BadWidth}
use Rattle.redomail.specs.declared.layout.Layout.{Layout}
use Rattle.redomail.specs.declared.task.Task.{Task}
use Rattle.redomail.specs.declared.task.Task.TheVariants as task

-- the task's board index is not below 4
abbrev pub is_off_board : Task → Bool
is_off_board (task.BoardGet i) = nat_le 4 i
is_off_board (task.BoardPut i v) = nat_le 4 i
is_off_board _ = false

-- the task's value has another width
abbrev pub is_other_width : ℕ → Task → Bool
is_other_width width (task.Append seq value) = not (length value == width)
is_other_width width _ = false

-- the refusal of a task of p, if any
abbrev pub task_refusal : Layout → ℕ → Task → Option Refusal
task_refusal l p t =
    if l.procs == 0 || nat_lt 64 l.procs then Some BadProcs
    else if l.cap == 0 || nat_lt 65536 l.cap then Some BadCap
    else if nat_le l.procs p then Some NoSuchProcess
    else if is_off_board t then Some BadIndex
    else if l.width == 0 || nat_lt 8 l.width || is_other_width l.width t then Some BadWidth
    else None
