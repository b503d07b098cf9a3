-- How `export` ends: the model of an algorithm's worlds is written.
use Rattle.std.specs.Prelude.{◌≡◌, ◌⊎◌, ◌<◌, ℕ, List, Bool, false, Option, None, Result, Err}
use Rattle.schedule.specs.Tapes.{Tape}
use Rattle.schedule.specs.Wholes.{Silent}
use Rattle.algorithms.specs.Worlds.{first_world, new_refusal}
use Rattle.algorithms.specs.declared.first_values.InitializedAlgorithm.{InitializedAlgorithm}
use Rattle.algorithm_explorer.specs.Live.{IsLeastLive}
use Rattle.promela.specs.Models.{model_text}
use Rattle.promela.specs.Ranges.{world_fits}
use Rattle.cli.specs.declared.arguments.args.ExportArgs.{ExportArgs}
use Rattle.command_parts.specs.declared.fault.CommandFault.TheVariants.{BadSize}
use Rattle.algorithm_commands.specs.AlgorithmExplores.{all_calls_of}
use Rattle.algorithm_commands.specs.AlgorithmTexts.{EndsOnAlgorithm}
use Rattle.command_parts.specs.declared.ending.Ending.{Ending}
use Rattle.command_parts.specs.declared.fault.CommandFault.{CommandFault}
use Rattle.command_parts.specs.Endings.{Prints, RunsOut}

-- the model of the algorithm's worlds of these sizes is written
pub record TellsModel (algorithm : InitializedAlgorithm) (args : ExportArgs) (before now : Tape) (end : Result Ending CommandFault) : Type 0 where
  pub sizes : new_refusal algorithm args.procs args.limit ≡ None
  pub live : List (List Bool)
  pub is_live : IsLeastLive algorithm.algorithm live
  pub prints : Prints 0 (model_text (first_world algorithm args.procs args.limit) live args.crashes (all_calls_of algorithm)) before now end

-- there are no such worlds, or a number is too great for a model; and nothing was written
pub record HasNoModel (algorithm : InitializedAlgorithm) (args : ExportArgs) (before now : Tape) : Type 0 where
  pub sizes :
      (new_refusal algorithm args.procs args.limit ≡ None → ⊥)
      ⊎ ((32767 < args.limit) ⊎ ((32767 < args.crashes) ⊎ (world_fits (first_world algorithm args.procs args.limit) ≡ false)))
  pub silent : Silent before now

-- how the model of this algorithm is written
abbrev pub ExportsAlgorithm : InitializedAlgorithm → ExportArgs → Tape → Tape → Result Ending CommandFault → Type 0
ExportsAlgorithm algorithm args before now end =
    TellsModel algorithm args before now end ⊎ (end ≡ Err BadSize) × HasNoModel algorithm args before now ⊎ RunsOut before now end

-- how `export` ends: the model of the algorithm that the text spells is written, or the fault of the text is answered and nothing is
-- written
abbrev pub AlgorithmExportEnds : ExportArgs → Option (List ℕ) → Tape → Tape → Result Ending CommandFault → Type 0
AlgorithmExportEnds args file before now end = EndsOnAlgorithm file (λ algorithm. ExportsAlgorithm algorithm args before now end) before now end
