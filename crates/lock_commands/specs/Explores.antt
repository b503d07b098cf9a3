-- How a search of all schedules ends.
use Rattle.std.specs.Prelude.{◌≡◌, ◌≢◌, ◌⊎◌, ℕ, zero, suc, ◌+◌, ◌≤◌, Bool, true, false, List, [], ◌∷◌, ◌++◌, length, map, take, replicate, Option, Some, None, Result, Ok, Err}
use Rattle.command_parts.specs.Options.{calls_if_asked, is_any}
use Rattle.command_parts.specs.Findings.{within_line, all_line, never_line, both_of, starves_line, never_starving_line}
use Rattle.redomail.specs.declared.layout.Layout.{Layout}
use Rattle.rmeworld.specs.declared.call.Call.{Call}
use Rattle.rmeworld.specs.declared.call.Call.TheVariants as call
use Rattle.rmeworld.specs.WorldState.{new_refusal}
use Rattle.schedule.specs.Tapes.{Tape}
use Rattle.schedule.specs.Schedules.{Scheduled, spelling}
use Rattle.schedule.specs.Wholes.{Silent}
use Rattle.explorer.specs.BreadthFirst.{EndsOnMany}
use Rattle.explorer.specs.Fairness.{IsLassoOf, IsLeastLasso, IsNeverStarving}
use Rattle.explorer.specs.Paths.{HasMoreStates, IsNumberOfStates}
use Rattle.explorer.specs.Stuck.{LeadsToStuck, IsShortestToStuck, IsNeverStuck}
use Rattle.crashlab.specs.declared.variants.variant.Variant.TheVariants.{Right}
use Rattle.crashlab.specs.declared.space.crash_counts.CrashCounts.{CrashCounts}
use Rattle.crashlab.specs.declared.space.moves.Move.{Move}
use Rattle.crashlab.specs.space.Numbered.{numbered_rules}
use Rattle.crashlab.specs.space.SearchStateWords.{search_state_words}
use Rattle.crashlab.specs.space.Spaces.{first_search_state, line_by, rules}
use Rattle.crashlab.specs.space.Starvation.{world_rules, fairness}
use Rattle.lock_explorer.specs.declared.search.variables.Variables.{Variables}
use Rattle.lock_explorer.specs.declared.search.variables.Variables.TheVariants.{All, Live}
use Rattle.lock_explorer.specs.Keys.{key_by}
use Rattle.lock_explorer.specs.FoundPaths.{IsFoundIn, IsShortestPath, NoneOfAtMost, NoneIsFound}
use Rattle.command_parts.specs.declared.fault.CommandFault.TheVariants.{BadSize, TooManyStates}
use Rattle.cli.specs.declared.arguments.args.Cycles.{Cycles}
use Rattle.cli.specs.declared.arguments.args.ExploreArgs.{ExploreArgs}
use Rattle.command_parts.specs.declared.ending.Ending.{Ending}
use Rattle.command_parts.specs.declared.fault.CommandFault.{CommandFault}
use Rattle.command_parts.specs.Endings.{Prints, RunsOut}
use Rattle.command_parts.specs.Statuses.{outcome}

-- an append for each number up to n; each word of its value is the number
abbrev pub appends : ℕ → ℕ → List Call
appends width zero = []
appends width (suc n) = appends width n ++ call.Append (suc n) (take width (replicate 8 (suc n))) ∷ []

-- the calls that the search starts
abbrev pub calls_of : ExploreArgs → List Call
calls_of args =
    calls_if_asked args.calls.lock (call.Lock ∷ [])
    ++ (calls_if_asked args.calls.unlock (call.Unlock ∷ [])
    ++ (calls_if_asked args.calls.recover (call.Recover ∷ [])
    ++ (calls_if_asked args.calls.consistent (call.Consistent ∷ [])
    ++ (calls_if_asked args.calls.withdraw (call.Withdraw ∷ [])
    ++ (calls_if_asked args.calls.append (appends args.width args.cap)
    ++ calls_if_asked args.calls.close (call.Close ∷ []))))))

-- the sizes of the search's worlds
abbrev pub layout_of : ExploreArgs → Layout
layout_of args = record { procs = args.procs; cap = args.cap; width = args.width }

-- the most crashes of a schedule
abbrev pub crash_counts : ExploreArgs → CrashCounts
crash_counts args = record { alone = args.crashes; together = args.system_crashes }

-- all variables distinguish the states of the search, or the live ones alone
abbrev pub variables_by : Bool → Variables
variables_by true = All
variables_by false = Live

-- the moves as a schedule
abbrev pub schedule_of : ExploreArgs → List Move → Scheduled
schedule_of args path = record { procs = args.procs; limit = args.limit; cap = args.cap; width = args.width; lines = map line_by path }

-- a schedule of fewest moves on which a wrong variant fails is written
pub record TellsLeast (args : ExploreArgs) (before now : Tape) (end : Result Ending CommandFault) : Type 0 where
  pub wrong : args.variant ≢ Right
  pub path : List Move
  pub found : IsFoundIn args.variant (layout_of args) args.limit (crash_counts args) (calls_of args) path
  pub least : IsShortestPath args.variant (layout_of args) args.limit (crash_counts args) (calls_of args) path
  pub few : length path ≤ args.moves
  pub prints : Prints 1 (spelling (schedule_of args path)) before now end

-- the variant fails on no schedule of at most this many moves, and that is written
pub record TellsNoneWithin (args : ExploreArgs) (before now : Tape) (end : Result Ending CommandFault) : Type 0 where
  pub none : NoneOfAtMost args.variant (layout_of args) args.limit (crash_counts args) (calls_of args) args.moves
  pub prints : Prints 0 (within_line args.moves) before now end

-- the variant fails on no schedule of any length, and that is written, with the number of states
pub record TellsNone (args : ExploreArgs) (before now : Tape) (end : Result Ending CommandFault) : Type 0 where
  pub none : NoneIsFound args.variant (layout_of args) args.limit (crash_counts args) (calls_of args)
  pub states : ℕ
  pub number : IsNumberOfStates (rules (key_by (variables_by args.all_variables))) (first_search_state args.variant (layout_of args) args.limit (crash_counts args) (calls_of args)) states
  pub prints : Prints 0 (all_line states) before now end

-- no world has these sizes, or no value has this width
abbrev pub IsNoSize : ExploreArgs → Type 0
IsNoSize args = (new_refusal (layout_of args) args.limit ≡ None → ⊥) ⊎ ((1 ≤ args.width) × (args.width ≤ 8) → ⊥)

-- breadth-first search within the bound of moves comes to more states than may be kept, before one with a fault, and nothing was written
pub record HasTooMany (args : ExploreArgs) (before now : Tape) : Type 0 where
  pub more : EndsOnMany (numbered_rules (key_by (variables_by args.all_variables))) (first_search_state args.variant (layout_of args) args.limit (crash_counts args) (calls_of args)) args.moves args.states
  pub silent : Silent before now

-- how `explore` ends without `--stuck` and `--starving`
abbrev pub ShortestEnds : ExploreArgs → Tape → Tape → Result Ending CommandFault → Type 0
ShortestEnds args before now end =
    TellsLeast args before now end
    ⊎ TellsNoneWithin args before now end
    ⊎ TellsNone args before now end
    ⊎ (end ≡ Err BadSize) × IsNoSize args × Silent before now
    ⊎ (end ≡ Err TooManyStates) × HasTooMany args before now
    ⊎ RunsOut before now end

-- a schedule of fewest moves on which a wrong variant fails is written, with no bound on the moves
pub record TellsWrong (args : ExploreArgs) (before now : Tape) (end : Result Ending CommandFault) : Type 0 where
  pub wrong : args.variant ≢ Right
  pub path : List Move
  pub found : IsFoundIn args.variant (layout_of args) args.limit (crash_counts args) (calls_of args) path
  pub least : IsShortestPath args.variant (layout_of args) args.limit (crash_counts args) (calls_of args) path
  pub prints : Prints 1 (spelling (schedule_of args path)) before now end

-- the variant fails on no schedule; one of fewest moves to a state from which no starts and steps lead home is written
pub record TellsStuck (args : ExploreArgs) (before now : Tape) (end : Result Ending CommandFault) : Type 0 where
  pub none : NoneIsFound args.variant (layout_of args) args.limit (crash_counts args) (calls_of args)
  pub path : List Move
  pub stuck : LeadsToStuck (rules search_state_words) (first_search_state args.variant (layout_of args) args.limit (crash_counts args) (calls_of args)) path
  pub least : IsShortestToStuck (rules search_state_words) (first_search_state args.variant (layout_of args) args.limit (crash_counts args) (calls_of args)) path
  pub prints : Prints 1 (spelling (schedule_of args path)) before now end

-- the variant fails on no schedule, from each state starts and steps lead home, and that is written, with the number of states
pub record TellsNeverStuck (args : ExploreArgs) (before now : Tape) (end : Result Ending CommandFault) : Type 0 where
  pub none : NoneIsFound args.variant (layout_of args) args.limit (crash_counts args) (calls_of args)
  pub never : IsNeverStuck (rules search_state_words) (first_search_state args.variant (layout_of args) args.limit (crash_counts args) (calls_of args))
  pub states : ℕ
  pub number : IsNumberOfStates (rules search_state_words) (first_search_state args.variant (layout_of args) args.limit (crash_counts args) (calls_of args)) states
  pub prints : Prints 0 (never_line states) before now end

-- there are more states than may be kept, and nothing was written
pub record HasTooManyAtAll (args : ExploreArgs) (before now : Tape) : Type 0 where
  pub more : HasMoreStates (rules search_state_words) (first_search_state args.variant (layout_of args) args.limit (crash_counts args) (calls_of args)) args.states
  pub silent : Silent before now

-- how `explore --stuck` ends
abbrev pub StuckEnds : ExploreArgs → Tape → Tape → Result Ending CommandFault → Type 0
StuckEnds args before now end =
    TellsWrong args before now end
    ⊎ TellsStuck args before now end
    ⊎ TellsNeverStuck args before now end
    ⊎ (end ≡ Err BadSize) × IsNoSize args × Silent before now
    ⊎ (end ≡ Err TooManyStates) × HasTooManyAtAll args before now
    ⊎ RunsOut before now end

-- a schedule of fewest moves to the end of a cycle in which a process starves is written, with the process and the cycle's length
pub record TellsStarving (args : ExploreArgs) (cycles : Cycles) (before now : Tape) (end : Result Ending CommandFault) : Type 0 where
  pub process : ℕ
  pub stem : List Move
  pub cycle : List Move
  pub lasso : IsLassoOf world_rules fairness (is_any cycles) (first_search_state args.variant (layout_of args) args.limit (crash_counts args) (calls_of args)) process stem cycle
  pub least : IsLeastLasso world_rules fairness (is_any cycles) (first_search_state args.variant (layout_of args) args.limit (crash_counts args) (calls_of args)) (length stem + length cycle)
  pub prints : Prints 1 (spelling (schedule_of args (stem ++ cycle)) ++ starves_line process (length cycle)) before now end

-- no process starves, and that is written, with the number of worlds
pub record TellsNeverStarving (args : ExploreArgs) (cycles : Cycles) (before now : Tape) (end : Result Ending CommandFault) : Type 0 where
  pub never : IsNeverStarving world_rules fairness (is_any cycles) (first_search_state args.variant (layout_of args) args.limit (crash_counts args) (calls_of args))
  pub states : ℕ
  pub number : IsNumberOfStates world_rules (first_search_state args.variant (layout_of args) args.limit (crash_counts args) (calls_of args)) states
  pub prints : Prints 0 (never_starving_line states) before now end

-- there are more worlds than may be kept, and nothing was written
pub record HasTooManyWorlds (args : ExploreArgs) (before now : Tape) : Type 0 where
  pub more : HasMoreStates world_rules (first_search_state args.variant (layout_of args) args.limit (crash_counts args) (calls_of args)) args.states
  pub silent : Silent before now

-- how `explore --starving` ends
abbrev pub StarvingEnds : Cycles → ExploreArgs → Tape → Tape → Result Ending CommandFault → Type 0
StarvingEnds cycles args before now end =
    TellsStarving args cycles before now end
    ⊎ TellsNeverStarving args cycles before now end
    ⊎ (end ≡ Err BadSize) × IsNoSize args × Silent before now
    ⊎ (end ≡ Err TooManyStates) × HasTooManyWorlds args before now
    ⊎ RunsOut before now end

-- the search for stuck states has ended so, and without a fault the other then ended so
abbrev pub SearchGoesOn : Cycles → ExploreArgs → Tape → Tape → Result Ending CommandFault → Result Ending CommandFault → Type 0
SearchGoesOn cycles args mid now (Err fault) end = (now ≡ mid) × (end ≡ Err fault)
SearchGoesOn cycles args mid now (Ok first) end = (second : Result Ending CommandFault) × StarvingEnds cycles args mid now second × (outcome end ≡ both_of first second)

-- how `explore --stuck --starving` ends: it writes both answers
pub record BothEnd (cycles : Cycles) (args : ExploreArgs) (before now : Tape) (end : Result Ending CommandFault) : Type 0 where
  pub mid : Tape
  pub first : Result Ending CommandFault
  pub stuck : StuckEnds args before mid first
  pub starving : SearchGoesOn cycles args mid now first end

-- with `--stuck` and `--starving`, one of them, or neither
abbrev pub EndsBy : Bool → Option Cycles → ExploreArgs → Tape → Tape → Result Ending CommandFault → Type 0
EndsBy true (Some cycles) args before now end = BothEnd cycles args before now end
EndsBy true None args before now end = StuckEnds args before now end
EndsBy false (Some cycles) args before now end = StarvingEnds cycles args before now end
EndsBy false None args before now end = ShortestEnds args before now end

-- how `explore` ends
abbrev pub ExploreEnds : ExploreArgs → Tape → Tape → Result Ending CommandFault → Type 0
ExploreEnds args before now end = EndsBy args.stuck args.starving args before now end
