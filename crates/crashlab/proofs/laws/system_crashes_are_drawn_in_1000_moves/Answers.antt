use Rattle.std.proofs.Common.{◌%◌, ◌/◌, ap, arith, if◌then◌else◌}
use Rattle.std.proofs.lemmas.Bool.{lt-ltb, le-ltb}
use Rattle.crashlab.specs.declared.hunts.moves.DrawnMove.TheVariants.{CrashAll}
use Rattle.crashlab.specs.hunts.Draws.{move_of_word}
use Rattle.crashlab.proofs.laws.system_crashes_are_drawn_in_1000_moves.Goals as goal

pub returns-clause-none : goal.returns-clause-none
returns-clause-none c = λ seen word. ap (λ b. if b then CrashAll else move_of_word seen word) (le-ltb (word / 4096 % 1000) 0 (omega arith))

pub returns-clause-all : goal.returns-clause-all
returns-clause-all c = λ seen word. ap (λ b. if b then CrashAll else move_of_word seen word) (lt-ltb (word / 4096 % 1000) 1000 (omega arith))
