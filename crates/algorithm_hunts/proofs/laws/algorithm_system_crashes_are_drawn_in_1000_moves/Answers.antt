use Rattle.std.proofs.Common.{◌%◌, ◌/◌, ap, arith, if◌then◌else◌}
use Rattle.std.proofs.lemmas.Bool.{lt-ltb, le-ltb}
use Rattle.schedule.specs.declared.lines.line.Line.TheVariants.{CrashAll}
use Rattle.algorithm_hunts.specs.Hunted.{move_of_draw}
use Rattle.algorithm_hunts.proofs.laws.algorithm_system_crashes_are_drawn_in_1000_moves.Goals as goal

pub returns-clause-none : goal.returns-clause-none
returns-clause-none c = λ procs word. ap (λ b. if b then CrashAll else move_of_draw procs word) (le-ltb (word / 4096 % 1000) 0 (omega arith))

pub returns-clause-all : goal.returns-clause-all
returns-clause-all c = λ procs word. ap (λ b. if b then CrashAll else move_of_draw procs word) (lt-ltb (word / 4096 % 1000) 1000 (omega arith))
