-- How the count of the costs of passages on random schedules of an algorithm ends.
use Rattle.std.specs.Prelude.{◌≡◌, ◌⊎◌, ℕ, ◌*◌, ◌/◌, ◌%◌, ◌==◌, if◌then◌else◌, List, [], ◌∷◌, ◌++◌, codes, Option, None, Result, Err}
use Rattle.std.specs.Fmt.{decimal}
use Rattle.algorithms.specs.Worlds.{new_refusal}
use Rattle.algorithms.specs.declared.first_values.InitializedAlgorithm.{InitializedAlgorithm}
use Rattle.algorithm_lab.specs.Monitors.{first_monitor}
use Rattle.algorithm_hunts.specs.MeanCosts.{costs_of_processes, no_totals, with_costs}
use Rattle.algorithm_hunts.specs.declared.random_rounds.CostTotals.{CostTotals}
use Rattle.algorithm_hunts.specs.declared.random_rounds.RandomRounds.{RandomRounds}
use Rattle.schedule.specs.Tapes.{Tape}
use Rattle.schedule.specs.Wholes.{Silent}
use Rattle.cli.specs.Sizes.{IsHuntSize}
use Rattle.cli.specs.declared.arguments.args.MeanCostArgs.{MeanCostArgs}
use Rattle.command_parts.specs.declared.fault.CommandFault.TheVariants.{BadSize}
use Rattle.algorithm_commands.specs.AlgorithmTexts.{EndsOnAlgorithm}
use Rattle.command_parts.specs.declared.ending.Ending.{Ending}
use Rattle.command_parts.specs.declared.fault.CommandFault.{CommandFault}
use Rattle.command_parts.specs.Endings.{Prints, RunsOut}

-- the random schedules that are asked for
abbrev pub rounds_of : MeanCostArgs → RandomRounds
rounds_of args = record { model = args.model; rounds = args.rounds; steps = args.steps }

-- the costs of all passages that these schedules complete, of one process after another
abbrev pub costs_of : InitializedAlgorithm → MeanCostArgs → List ℕ
costs_of algorithm args = costs_of_processes (rounds_of args) (first_monitor algorithm args.procs args.limit) args.seed args.procs

-- a number of hundredths, with two digits after the point
abbrev pub hundredths_text : ℕ → List ℕ
hundredths_text n = decimal (n / 100) ++ codes "." ++ decimal (n / 10 % 10) ++ decimal (n % 10)

-- the mean, rounded down to hundredths; without passages there is none
abbrev pub mean_text : CostTotals → List ℕ
mean_text totals = if totals.count == 0 then [] else codes " mean " ++ hundredths_text (100 * totals.sum / totals.count)

-- the line `passages N cost K mean M`
abbrev pub mean_line : CostTotals → List ℕ
mean_line totals = codes "passages " ++ decimal totals.count ++ codes " cost " ++ decimal totals.sum ++ mean_text totals ++ 10 ∷ []

-- the number of the passages is written, their costs together, and the mean
pub record TellsMean (algorithm : InitializedAlgorithm) (args : MeanCostArgs) (before now : Tape) (end : Result Ending CommandFault) : Type 0 where
  pub sizes : new_refusal algorithm args.procs args.limit ≡ None
  pub prints : Prints 0 (mean_line (with_costs no_totals (costs_of algorithm args))) before now end

-- the rounds or their moves are outside their ranges, or the algorithm has no world of these sizes, and nothing was written
pub record HasNoMean (algorithm : InitializedAlgorithm) (args : MeanCostArgs) (before now : Tape) : Type 0 where
  pub sizes : (IsHuntSize args.rounds args.steps → ⊥) ⊎ (new_refusal algorithm args.procs args.limit ≡ None → ⊥)
  pub silent : Silent before now

-- how the count on this algorithm ends
abbrev pub CountsAlgorithm : InitializedAlgorithm → MeanCostArgs → Tape → Tape → Result Ending CommandFault → Type 0
CountsAlgorithm algorithm args before now end =
    TellsMean algorithm args before now end ⊎ (end ≡ Err BadSize) × HasNoMean algorithm args before now ⊎ RunsOut before now end

-- how `cost --mean` ends: the passages of the algorithm that the text spells are counted, or the fault of the text is answered and
-- nothing is written
abbrev pub AlgorithmMeanEnds : MeanCostArgs → Option (List ℕ) → Tape → Tape → Result Ending CommandFault → Type 0
AlgorithmMeanEnds args file before now end = EndsOnAlgorithm file (λ algorithm. CountsAlgorithm algorithm args before now end) before now end
