-- The numbers of refusals: those of the lock where the cause is the same, and 16 to 18.
use Rattle.std.specs.Prelude.{ℕ, Option, Some, None}
use Rattle.algorithms.specs.declared.refusal.AlgorithmRefusal.{AlgorithmRefusal}
use Rattle.algorithms.specs.declared.refusal.AlgorithmRefusal.TheVariants as world
use Rattle.algorithm_lab.specs.declared.run_refusal.RunRefusal.{RunRefusal}
use Rattle.algorithm_lab.specs.declared.run_refusal.RunRefusal.TheVariants.{Refused, NotOwner, AlreadyIn, OutOfMemory}

-- the number of a refusal by a world. Out of memory has none
abbrev pub number_of_world : AlgorithmRefusal → Option ℕ
number_of_world world.BadProcs = Some 1
number_of_world world.BadLimit = Some 2
number_of_world world.NoSuchProcess = Some 3
number_of_world world.CallUnderWay = Some 4
number_of_world world.NothingToDo = Some 7
number_of_world world.NotWaiting = Some 14
number_of_world (world.OutOfRange place) = Some 16
number_of_world world.NoSuchCall = Some 17
number_of_world (world.Malformed place) = Some 18
number_of_world world.OutOfMemory = None

abbrev pub number_of : RunRefusal → Option ℕ
number_of (Refused refusal) = number_of_world refusal
number_of NotOwner = Some 5
number_of AlreadyIn = Some 6
number_of OutOfMemory = None
