-- The task of a script's purpose. `consistent` first reads whether the lock is ruined.
use Rattle.redomail.specs.declared.task.Task.{Task}
use Rattle.redomail.specs.declared.task.Task.TheVariants.{Check, Ruin, Repair}
use Rattle.rmeworld.specs.declared.purpose.Purpose.{Purpose}
use Rattle.rmeworld.specs.declared.purpose.Purpose.TheVariants.{Checking, Ruining, Mending, Working}

abbrev pub task_of : Purpose → Task
task_of Checking = Check
task_of Ruining = Ruin
task_of Mending = Repair
task_of (Working task) = task
