-- How a hunt on an algorithm ends.
use Rattle.std.specs.Prelude.{◌≡◌, ◌⊎◌, ℕ, Bool, true, false, List, Option, None, Some, Result, Err}
use Rattle.algorithms.specs.Worlds.{new_refusal}
use Rattle.algorithms.specs.declared.first_values.InitializedAlgorithm.{InitializedAlgorithm}
use Rattle.algorithm_hunts.specs.Hunted.{hunt_answer_from, IsFoundByHunt, IsLeastOf}
use Rattle.algorithm_hunts.specs.declared.hunt_fault.AlgorithmHuntFault.{AlgorithmHuntFault}
use Rattle.algorithm_hunts.specs.declared.hunt_fault.AlgorithmHuntFault.TheVariants as of_hunt
use Rattle.schedule.specs.Schedules.{Scheduled, spelling}
use Rattle.schedule.specs.Tapes.{Tape}
use Rattle.schedule.specs.Wholes.{Silent}
use Rattle.cli.specs.Sizes.{IsHuntPart}
use Rattle.cli.specs.declared.arguments.args.AlgorithmHuntArgs.{AlgorithmHuntArgs}
use Rattle.command_parts.specs.declared.fault.CommandFault.TheVariants as faults
use Rattle.algorithm_commands.specs.AlgorithmTexts.{EndsOnAlgorithm}
use Rattle.command_parts.specs.declared.ending.Ending.{Ending}
use Rattle.command_parts.specs.declared.fault.CommandFault.{CommandFault}
use Rattle.command_parts.specs.Endings.{Prints, RunsOut}
use Rattle.command_parts.specs.Findings.{nothing_line}

-- the command's fault for a fault of a hunt
abbrev pub fault_of_hunt : AlgorithmHuntFault → CommandFault
fault_of_hunt of_hunt.OutOfMemory = faults.OutOfMemory
fault_of_hunt fault = faults.BadSize

-- what the hunt answers that is asked for
abbrev pub answer_for : InitializedAlgorithm → AlgorithmHuntArgs → Option Scheduled
answer_for algorithm args = hunt_answer_from algorithm args.procs args.limit args.moves args.first_round args.rounds

-- what is written for what a hunt answers: that schedule, or a least one
abbrev pub IsWrittenFor : Bool → InitializedAlgorithm → Option Scheduled → Option Scheduled → Type 0
IsWrittenFor false algorithm answer written = written ≡ answer
IsWrittenFor true algorithm answer written = IsLeastOf algorithm answer written

-- the hunt finds a schedule with at most the moves asked for, whose verdict is against. It is written, or a least one of it
pub record TellsHunted (algorithm : InitializedAlgorithm) (args : AlgorithmHuntArgs) (before now : Tape) (end : Result Ending CommandFault) : Type 0 where
  pub schedule : Scheduled
  pub found : IsFoundByHunt algorithm args.procs args.limit args.moves.steps schedule
  pub exact : Some schedule ≡ answer_for algorithm args
  pub written : Scheduled
  pub of_it : IsWrittenFor args.shrink algorithm (Some schedule) (Some written)
  pub prints : Prints 1 (spelling written) before now end

-- the hunt finds nothing on worlds of these sizes, and that is written
pub record TellsNothing (algorithm : InitializedAlgorithm) (args : AlgorithmHuntArgs) (before now : Tape) (end : Result Ending CommandFault) : Type 0 where
  pub sizes : new_refusal algorithm args.procs args.limit ≡ None
  pub none : None ≡ answer_for algorithm args
  pub prints : Prints 0 nothing_line before now end

-- the numbers of a hunt are in their ranges, and so is that of its last round
abbrev pub AlgorithmHuntFits : AlgorithmHuntArgs → Type 0
AlgorithmHuntFits args = IsHuntPart args.first_round args.rounds args.moves

-- the rounds or their moves are outside their ranges, or the algorithm has no world of these sizes, and nothing was written
pub record HasNoHunt (algorithm : InitializedAlgorithm) (args : AlgorithmHuntArgs) (before now : Tape) : Type 0 where
  pub sizes : (AlgorithmHuntFits args → ⊥) ⊎ (new_refusal algorithm args.procs args.limit ≡ None → ⊥)
  pub silent : Silent before now

-- how a hunt on this algorithm ends: memory may run out before it is known what it finds
abbrev pub HuntsAlgorithm : InitializedAlgorithm → AlgorithmHuntArgs → Tape → Tape → Result Ending CommandFault → Type 0
HuntsAlgorithm algorithm args before now end =
    TellsHunted algorithm args before now end
    ⊎ TellsNothing algorithm args before now end
    ⊎ (end ≡ Err faults.BadSize) × HasNoHunt algorithm args before now
    ⊎ RunsOut before now end

-- how `hunt --algorithm` ends
abbrev pub AlgorithmHuntEnds : AlgorithmHuntArgs → Option (List ℕ) → Tape → Tape → Result Ending CommandFault → Type 0
AlgorithmHuntEnds args file before now end = EndsOnAlgorithm file (λ algorithm. HuntsAlgorithm algorithm args before now end) before now end
