-- How a search for the greatest cost of a variant's passages ends.
use Rattle.std.specs.Prelude.{◌≡◌, ◌⊎◌, ◌++◌, Result, Err}
use Rattle.crashlab.specs.declared.space.moves.Move.{Move}
use Rattle.crashlab.specs.space.Spaces.{SearchState, first_search_state}
use Rattle.passages.specs.declared.question.CostQuestion.{CostQuestion}
use Rattle.passages.specs.PassageCosts.{HasMoreCostStates, IsCostFrom}
use Rattle.passages.specs.PassageSpaces.{passage_rules, variant_schedules}
use Rattle.passages.specs.declared.question.PassageCost.{PassageCost}
use Rattle.lock_explorer.specs.VariantCosts.{passages_from}
use Rattle.schedule.specs.Schedules.{spelling}
use Rattle.schedule.specs.Tapes.{Tape}
use Rattle.schedule.specs.Wholes.{Silent}
use Rattle.cli.specs.declared.arguments.args.VariantCostArgs.{VariantCostArgs}
use Rattle.command_parts.specs.Costs.{line_of_cost, path_of_cost, status_of_cost}
use Rattle.command_parts.specs.declared.ending.Ending.{Ending}
use Rattle.command_parts.specs.declared.fault.CommandFault.{CommandFault}
use Rattle.command_parts.specs.declared.fault.CommandFault.TheVariants.{BadSize, TooManyStates}
use Rattle.command_parts.specs.Endings.{Prints, RunsOut}
use Rattle.lock_commands.specs.Explores.{IsNoSize, calls_of, crash_counts, layout_of, schedule_of}

-- the new world of the search, and what is asked of it
abbrev pub start_of : VariantCostArgs → SearchState
start_of args = first_search_state args.search.variant (layout_of args.search) args.search.limit (crash_counts args.search) (calls_of args.search)

abbrev pub question_of : VariantCostArgs → CostQuestion
question_of args = record { model = args.model; kind = args.kind }

-- a schedule that reaches the greatest cost, or to the end of a cycle by which there is none, is written, and then the line that tells it
pub record TellsVariantCost (args : VariantCostArgs) (before now : Tape) (end : Result Ending CommandFault) : Type 0 where
  pub cost : PassageCost Move
  pub is : IsCostFrom variant_schedules (question_of args) (start_of args) cost
  pub prints : Prints (status_of_cost cost) (spelling (schedule_of args.search (path_of_cost cost)) ++ line_of_cost args.kind cost) before now end

-- there are more states than may be kept, and nothing was written
pub record HasTooManyPassageStates (args : VariantCostArgs) (before now : Tape) : Type 0 where
  pub more : HasMoreCostStates passage_rules (passages_from (question_of args) (start_of args)) args.search.procs args.search.states
  pub silent : Silent before now

-- how `cost --variant` ends
abbrev pub VariantCostEnds : VariantCostArgs → Tape → Tape → Result Ending CommandFault → Type 0
VariantCostEnds args before now end =
    TellsVariantCost args before now end
    ⊎ (end ≡ Err BadSize) × IsNoSize args.search × Silent before now
    ⊎ (end ≡ Err TooManyStates) × HasTooManyPassageStates args before now
    ⊎ RunsOut before now end
