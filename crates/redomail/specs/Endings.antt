-- The words ruined and armed after a task.
use Rattle.std.specs.Prelude.{◌≡◌, ℕ}
use Rattle.redomail.specs.declared.task.Task.{Task}
use Rattle.redomail.specs.declared.task.Task.TheVariants as task

-- the word ruined after a task, from its value before
abbrev pub ruined_after : Task → ℕ → ℕ
ruined_after task.Ruin x = 1
ruined_after _ x = x

-- the word armed after a task, from its value before
abbrev pub armed_after : Task → ℕ → ℕ
armed_after (task.Append seq value) x = 0
armed_after task.Close x = 0
armed_after task.Repair x = 0
armed_after _ x = x

-- what a task needs of the word armed: Append and Close need 0
abbrev pub FindsArmed : Task → ℕ → Type 0
FindsArmed (task.Append seq value) x = x ≡ 0
FindsArmed task.Close x = x ≡ 0
FindsArmed _ x = Unit {0}
