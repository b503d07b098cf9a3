-- How shrinking a schedule on an algorithm's text ends.
use Rattle.std.specs.Prelude.{◌≡◌, ◌⊎◌, ℕ, List, Option, Some, Result, Err}
use Rattle.algorithms.specs.declared.first_values.InitializedAlgorithm.{InitializedAlgorithm}
use Rattle.algorithm_hunts.specs.Shrunk.{MinimizesAlgorithm, schedule_run}
use Rattle.algorithm_lab.specs.declared.run_refusal.RunRefusal.{RunRefusal}
use Rattle.schedule.specs.Schedules.{Scheduled}
use Rattle.schedule.specs.Tapes.{Tape, Reading}
use Rattle.schedule.specs.Wholes.{Silent}
use Rattle.algorithm_commands.specs.AlgorithmReplays.{refused_at}
use Rattle.algorithm_commands.specs.AlgorithmTexts.{EndsOnBoth}
use Rattle.command_parts.specs.declared.ending.Ending.{Ending}
use Rattle.command_parts.specs.declared.fault.CommandFault.{CommandFault}
use Rattle.command_parts.specs.Endings.{Prints, RunsOut}
use Rattle.command_parts.specs.Findings.{shrunk_text, shrunk_status}

-- what shrinking answers is written
pub record TellsShrunkOfAlgorithm (algorithm : InitializedAlgorithm) (schedule : Scheduled) (before now : Tape) (end : Result Ending CommandFault) : Type 0 where
  pub answer : Option Scheduled
  pub shrinks : MinimizesAlgorithm algorithm schedule answer
  pub prints : Prints (shrunk_status answer) (shrunk_text answer) before now end

-- the fault is the line that the run refuses, or the header, and nothing is written
pub record TellsRefusedOfAlgorithm (algorithm : InitializedAlgorithm) (schedule : Scheduled) (before now : Tape) (end : Result Ending CommandFault) : Type 0 where
  pub line : ℕ
  pub refusal : RunRefusal
  pub refused : (schedule_run algorithm schedule).refused ≡ Some (line, refusal)
  pub fault : end ≡ Err (refused_at algorithm.algorithm line refusal)
  pub silent : Silent before now

-- the schedule is shrunk, a line of it is refused, or memory has run out before either is known
abbrev pub ShrinksAlgorithm : InitializedAlgorithm → Scheduled → Tape → Tape → Result Ending CommandFault → Type 0
ShrinksAlgorithm algorithm schedule before now end =
    TellsShrunkOfAlgorithm algorithm schedule before now end
    ⊎ (TellsRefusedOfAlgorithm algorithm schedule before now end ⊎ RunsOut before now end)

-- how `shrink --algorithm` ends
abbrev pub AlgorithmShrinkEnds : Option (List ℕ) → Reading → Reading → Tape → Tape → Result Ending CommandFault → Type 0
AlgorithmShrinkEnds file old new before now end =
    EndsOnBoth file (λ algorithm schedule. ShrinksAlgorithm algorithm schedule before now end) old new before now end
