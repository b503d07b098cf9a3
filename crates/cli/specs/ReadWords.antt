-- How the words of a command line are answered (docs/use/command-line.md): what `clap` refuses first, then a bad variant,
-- then a bad size.
use Rattle.std.specs.Prelude.{◌≡◌, ◌≢◌, ◌⊎◌, ℕ, true, false, List, [], map, Some, option_map, codes, Result, Err, MatchResult, IsNone, IsSome, IsSomeAnd, String, string_bytes}
use Rattle.std.specs.List.{list_all, list_any}
use Rattle.std.specs.Str.{bytes_eq}
use Rattle.std.specs.declared.alloc.Global.{Global}
use Rattle.clap.specs.Words.{Text, first_of, subcommand_of, fault_of, IsAmong}
use Rattle.clap.specs.declared.error.kind.ErrorKind.{ErrorKind}
use Rattle.clap.specs.declared.error.kind.ErrorKind.TheVariants as kinds
use Rattle.crashlab.specs.declared.hunts.random_moves.RandomMoves.{RandomMoves}
use Rattle.crashlab.specs.declared.variants.variant.Variant.{Variant}
use Rattle.crashlab.specs.declared.variants.variant.Variant.TheVariants.{Right}
use Rattle.cli.specs.declared.arguments.args.Command.{Command}
use Rattle.cli.specs.declared.arguments.args.Command.TheVariants.{Replay, ReplayAlgorithm, Run, Hunt, HuntAlgorithm, Explore, ExploreAlgorithm, Cost, CostVariant, MeanCost, Export, States, StatesAlgorithm, Judge, Draw, DrawAlgorithm, Shrink, ShrinkAlgorithm, Step, StepAlgorithm, Explain}
use Rattle.cli.specs.declared.arguments.args.ReplayArgs.{ReplayArgs}
use Rattle.cli.specs.declared.arguments.args.AlgorithmReplayArgs.{AlgorithmReplayArgs}
use Rattle.cli.specs.declared.arguments.args.RunArgs.{RunArgs}
use Rattle.cli.specs.declared.arguments.args.HuntArgs.{HuntArgs}
use Rattle.cli.specs.declared.arguments.args.AlgorithmHuntArgs.{AlgorithmHuntArgs}
use Rattle.cli.specs.declared.arguments.args.ExploreArgs.{ExploreArgs}
use Rattle.cli.specs.declared.arguments.args.AlgorithmExploreArgs.{AlgorithmExploreArgs}
use Rattle.cli.specs.declared.arguments.args.CostArgs.{CostArgs}
use Rattle.cli.specs.declared.arguments.args.VariantCostArgs.{VariantCostArgs}
use Rattle.cli.specs.declared.arguments.args.MeanCostArgs.{MeanCostArgs}
use Rattle.cli.specs.declared.arguments.args.ExportArgs.{ExportArgs}
use Rattle.cli.specs.declared.arguments.args.StreamArgs.{StreamArgs}
use Rattle.cli.specs.declared.arguments.args.StatesArgs.{StatesArgs}
use Rattle.cli.specs.declared.arguments.args.AlgorithmStatesArgs.{AlgorithmStatesArgs}
use Rattle.cli.specs.declared.arguments.args.DrawArgs.{DrawArgs}
use Rattle.cli.specs.declared.arguments.args.AlgorithmDrawArgs.{AlgorithmDrawArgs}
use Rattle.cli.specs.declared.arguments.args.JudgeArgs.{JudgeArgs}
use Rattle.cli.specs.declared.arguments.args.ShrinkArgs.{ShrinkArgs}
use Rattle.cli.specs.declared.arguments.args.AlgorithmShrinkArgs.{AlgorithmShrinkArgs}
use Rattle.cli.specs.declared.arguments.args.AlgorithmStepArgs.{AlgorithmStepArgs}
use Rattle.cli.specs.declared.arguments.words.WordsFault.{WordsFault}
use Rattle.cli.specs.declared.arguments.words.WordsFault.TheVariants.{Help, Refused, BadVariant, BadSize, Unreadable, OutOfMemory}
use Rattle.cli.specs.declared.explain.dictionary_entry.DictionaryEntry.{DictionaryEntry}
use Rattle.cli.specs.CommandLine.{rmelab}
use Rattle.cli.specs.Given.{Given, AsksFor, AsksForNone, is_set, number_or, calls_of, alphabet_of, is_call, algorithm_calls_in, are_algorithm_calls, entry_named, AsksForCycles, AsksForNoCycles, AsksForTool, AsksForNoTool, AsksForModel, AsksForNoModel, kind_asked}
use Rattle.cli.specs.Names.{name_of}
use Rattle.cli.specs.Sizes.{RunFits, IsHuntSize, AreHuntNumbers}

-- ---- the arguments of a command, by what is given to it

-- the variant is asked for, and is `right` where an image is given
abbrev pub GoesWithImage : Given → Variant → Type 0
GoesWithImage given variant = AsksFor (codes "right") given variant × (IsSome (first_of (codes "image") given) → variant ≡ Right)

pub record IsReplay (given : Given) (args : ReplayArgs) : Type 0 where
  pub json : args.json ≡ is_set (codes "json") given
  pub each : args.each ≡ is_set (codes "each") given
  pub variant : GoesWithImage given args.variant
  pub image : option_map string_bytes args.image ≡ first_of (codes "image") given
  pub save : option_map string_bytes args.save ≡ first_of (codes "save") given
  pub file : option_map string_bytes args.file ≡ first_of (codes "FILE") given
  pub no_algorithm : IsNone (first_of (codes "algorithm") given)

-- no variant, no image and no file for the last image are given
pub record IsAlone (given : Given) : Type 0 where
  pub variant : IsNone (first_of (codes "variant") given)
  pub image : IsNone (first_of (codes "image") given)
  pub save : IsNone (first_of (codes "save") given)

pub record IsAlgorithmReplay (given : Given) (args : AlgorithmReplayArgs) : Type 0 where
  pub algorithm : Some (string_bytes args.algorithm) ≡ first_of (codes "algorithm") given
  pub json : args.json ≡ is_set (codes "json") given
  pub each : args.each ≡ is_set (codes "each") given
  pub file : option_map string_bytes args.file ≡ first_of (codes "FILE") given
  pub alone : IsAlone given

abbrev pub run_of : Given → RunArgs
run_of given = record {
  procs = number_or 0 (codes "procs") given;
  messages = number_or 0 (codes "messages") given;
  crash = number_or 0 (codes "crash") given;
  seed = number_or 0 (codes "seed") given;
  width = number_or 1 (codes "width") given;
}

-- the rounds of a hunt
abbrev pub rounds_of : Given → ℕ
rounds_of given = number_or 0 (codes "rounds") given

-- the random moves of each round
abbrev pub moves_of : Given → RandomMoves
moves_of given = record {
  seed = number_or 0 (codes "seed") given;
  steps = number_or 0 (codes "steps") given;
  system_crashes = number_or 0 (codes "system-crashes") given;
}

pub record IsHunt (given : Given) (args : HuntArgs) : Type 0 where
  pub variant : AsksFor [] given args.variant
  pub moves : args.moves ≡ moves_of given
  pub first_round : args.first_round ≡ number_or 0 (codes "first-round") given
  pub rounds : args.rounds ≡ rounds_of given
  pub shrink : args.shrink ≡ is_set (codes "shrink") given
  pub jobs : args.jobs ≡ number_or 0 (codes "jobs") given
  pub no_algorithm : IsNone (first_of (codes "algorithm") given)
  -- the sizes of a variant's worlds are fixed
  pub no_procs : IsNone (first_of (codes "procs") given)
  pub no_limit : IsNone (first_of (codes "limit") given)

pub record IsAlgorithmHunt (given : Given) (args : AlgorithmHuntArgs) : Type 0 where
  pub algorithm : Some (string_bytes args.algorithm) ≡ first_of (codes "algorithm") given
  pub no_variant : IsNone (first_of (codes "variant") given)
  pub procs : args.procs ≡ number_or 2 (codes "procs") given
  pub limit : args.limit ≡ number_or 1000000 (codes "limit") given
  pub moves : args.moves ≡ moves_of given
  pub first_round : args.first_round ≡ number_or 0 (codes "first-round") given
  pub rounds : args.rounds ≡ rounds_of given
  pub shrink : args.shrink ≡ is_set (codes "shrink") given
  pub jobs : args.jobs ≡ number_or 0 (codes "jobs") given

pub record IsExplore (given : Given) (args : ExploreArgs) : Type 0 where
  pub variant : AsksFor [] given args.variant
  pub procs : args.procs ≡ number_or 0 (codes "procs") given
  pub calls : args.calls ≡ alphabet_of (calls_of given)
  pub known : list_all is_call (calls_of given) ≡ true
  pub crashes : args.crashes ≡ number_or 0 (codes "crashes") given
  pub system_crashes : args.system_crashes ≡ number_or 0 (codes "system-crashes") given
  pub moves : args.moves ≡ number_or 18446744073709551615 (codes "moves") given
  pub states : args.states ≡ number_or 10000000 (codes "states") given
  pub limit : args.limit ≡ number_or 4 (codes "limit") given
  pub cap : args.cap ≡ number_or 1 (codes "cap") given
  pub width : args.width ≡ number_or 1 (codes "width") given
  pub stuck : args.stuck ≡ is_set (codes "stuck") given
  pub all_variables : args.all_variables ≡ is_set (codes "all-variables") given
  pub jobs : args.jobs ≡ number_or 0 (codes "jobs") given
  pub starving : AsksForCycles given args.starving
  -- a search for stuck states or for starvation has no bound on moves
  pub unbounded : args.stuck ≡ true → IsNone (first_of (codes "moves") given)
  pub no_bound : IsSome args.starving → IsNone (first_of (codes "moves") given)
  pub no_algorithm : IsNone (first_of (codes "algorithm") given)

-- an algorithm is given to a search, and no option that its search does not have
pub record IsAlgorithmSearch (given : Given) : Type 0 where
  pub algorithm : IsSome (first_of (codes "algorithm") given)
  pub no_all_variables : is_set (codes "all-variables") given ≡ false
  pub no_cap : IsNone (first_of (codes "cap") given)
  pub no_width : IsNone (first_of (codes "width") given)

pub record IsAlgorithmExplore (given : Given) (args : AlgorithmExploreArgs) : Type 0 where
  pub algorithm : Some (string_bytes args.algorithm) ≡ first_of (codes "algorithm") given
  pub no_variant : IsNone (first_of (codes "variant") given)
  pub search : IsAlgorithmSearch given
  pub procs : args.procs ≡ number_or 0 (codes "procs") given
  pub calls : args.calls ≡ algorithm_calls_in given
  pub known : are_algorithm_calls given ≡ true
  pub crashes : args.crashes ≡ number_or 0 (codes "crashes") given
  pub system_crashes : args.system_crashes ≡ number_or 0 (codes "system-crashes") given
  pub moves : args.moves ≡ number_or 18446744073709551615 (codes "moves") given
  pub states : args.states ≡ number_or 10000000 (codes "states") given
  pub limit : args.limit ≡ number_or 4 (codes "limit") given
  pub stuck : args.stuck ≡ is_set (codes "stuck") given
  pub jobs : args.jobs ≡ number_or 0 (codes "jobs") given
  pub starving : AsksForCycles given args.starving
  -- a search for stuck states or for starvation has no bound on moves
  pub unbounded : args.stuck ≡ true → IsNone (first_of (codes "moves") given)
  pub no_bound : IsSome args.starving → IsNone (first_of (codes "moves") given)

-- the greatest cost is asked for, and no option of random schedules is given
pub record HasNoRounds (given : Given) : Type 0 where
  pub no_mean : is_set (codes "mean") given ≡ false
  pub no_seed : IsNone (first_of (codes "seed") given)
  pub no_rounds : IsNone (first_of (codes "rounds") given)
  pub no_steps : IsNone (first_of (codes "steps") given)

-- the mean cost is asked for, and no option of a search is given. Nobody crashes on these random schedules
pub record HasNoSearch (given : Given) : Type 0 where
  pub mean : is_set (codes "mean") given ≡ true
  pub no_super_passages : is_set (codes "super-passages") given ≡ false
  pub no_calls : IsNone (first_of (codes "calls") given)
  pub no_crashes : IsNone (first_of (codes "crashes") given)
  pub no_system_crashes : IsNone (first_of (codes "system-crashes") given)
  pub no_states : IsNone (first_of (codes "states") given)

-- an algorithm alone is given, whose costs are asked for, and no option that `cost` does not have for one, or for what is asked
pub record IsCostSearch (given : Given) : Type 0 where
  pub algorithm : IsSome (first_of (codes "algorithm") given)
  pub no_variant : IsNone (first_of (codes "variant") given)
  pub options : (IsAlgorithmSearch given × HasNoRounds given) ⊎ HasNoSearch given

-- the schedules are those of the search that `explore` makes of the same options
pub record AsksForCost (given : Given) (args : CostArgs) : Type 0 where
  pub search : IsAlgorithmExplore given args.search
  pub model : AsksForModel given args.model
  pub kind : args.kind ≡ kind_asked given
  pub options : HasNoRounds given

pub record AsksForVariantCost (given : Given) (args : VariantCostArgs) : Type 0 where
  pub search : IsExplore given args.search
  pub model : AsksForModel given args.model
  pub kind : args.kind ≡ kind_asked given
  pub options : HasNoRounds given

-- the rounds of random schedules whose costs are counted
abbrev pub cost_rounds_of : Given → ℕ
cost_rounds_of given = number_or 100 (codes "rounds") given

-- the moves of each of these rounds
abbrev pub cost_steps_of : Given → ℕ
cost_steps_of given = number_or 1000 (codes "steps") given

pub record AsksForMeanCost (given : Given) (args : MeanCostArgs) : Type 0 where
  pub algorithm : Some (string_bytes args.algorithm) ≡ first_of (codes "algorithm") given
  pub model : AsksForModel given args.model
  pub procs : args.procs ≡ number_or 0 (codes "procs") given
  pub limit : args.limit ≡ number_or 1000000 (codes "limit") given
  pub seed : args.seed ≡ number_or 0 (codes "seed") given
  pub rounds : args.rounds ≡ cost_rounds_of given
  pub steps : args.steps ≡ cost_steps_of given
  pub options : HasNoSearch given
  pub no_variant : IsNone (first_of (codes "variant") given)

-- the model of an algorithm, its sizes, and how many crashes may come
pub record AsksForModelOf (given : Given) (args : ExportArgs) : Type 0 where
  pub algorithm : Some (string_bytes args.algorithm) ≡ first_of (codes "promela") given
  pub procs : args.procs ≡ number_or 0 (codes "procs") given
  pub limit : args.limit ≡ number_or 4 (codes "limit") given
  pub crashes : args.crashes ≡ number_or 0 (codes "crashes") given

-- what is done with lines of states, and their form
pub record IsStream (given : Given) (args : StreamArgs) : Type 0 where
  pub tool : AsksForTool given args.tool
  pub words : args.words ≡ number_or 0 (codes "words") given
  pub digits : args.digits ≡ number_or 2 (codes "digits") given
  pub part : args.part ≡ number_or 0 (codes "part") given
  pub parts : args.parts ≡ number_or 1 (codes "parts") given
  pub file : option_map string_bytes args.file ≡ first_of (codes "FILE") given

-- the states are those of the search that `explore` makes of the same options
pub record IsStates (given : Given) (args : StatesArgs) : Type 0 where
  pub search : IsExplore given args.search
  pub stream : IsStream given args.stream

pub record IsAlgorithmStates (given : Given) (args : AlgorithmStatesArgs) : Type 0 where
  pub search : IsAlgorithmExplore given args.search
  pub stream : IsStream given args.stream

pub record IsJudge (given : Given) (args : JudgeArgs) : Type 0 where
  pub json : args.json ≡ is_set (codes "json") given
  pub file : option_map string_bytes args.file ≡ first_of (codes "FILE") given

pub record IsDraw (given : Given) (args : DrawArgs) : Type 0 where
  pub html : args.html ≡ is_set (codes "html") given
  pub svg : args.svg ≡ is_set (codes "svg") given
  pub variant : GoesWithImage given args.variant
  pub image : option_map string_bytes args.image ≡ first_of (codes "image") given
  pub file : option_map string_bytes args.file ≡ first_of (codes "FILE") given
  pub no_algorithm : IsNone (first_of (codes "algorithm") given)

pub record IsAlgorithmDraw (given : Given) (args : AlgorithmDrawArgs) : Type 0 where
  pub algorithm : Some (string_bytes args.algorithm) ≡ first_of (codes "algorithm") given
  pub html : args.html ≡ is_set (codes "html") given
  pub svg : args.svg ≡ is_set (codes "svg") given
  pub file : option_map string_bytes args.file ≡ first_of (codes "FILE") given
  pub alone : IsAlone given

pub record IsShrink (given : Given) (args : ShrinkArgs) : Type 0 where
  pub variant : AsksFor [] given args.variant
  pub file : option_map string_bytes args.file ≡ first_of (codes "FILE") given
  pub no_algorithm : IsNone (first_of (codes "algorithm") given)

pub record IsAlgorithmShrink (given : Given) (args : AlgorithmShrinkArgs) : Type 0 where
  pub algorithm : Some (string_bytes args.algorithm) ≡ first_of (codes "algorithm") given
  pub no_variant : IsNone (first_of (codes "variant") given)
  pub file : option_map string_bytes args.file ≡ first_of (codes "FILE") given

pub record IsAlgorithmStep (given : Given) (args : AlgorithmStepArgs) : Type 0 where
  pub algorithm : Some (string_bytes args.algorithm) ≡ first_of (codes "algorithm") given
  pub file : option_map string_bytes args.file ≡ first_of (codes "FILE") given

-- the command has this name, and its arguments are those that are given
abbrev pub IsCommand : Text → Given → Command → Type 0
IsCommand name given (Replay args) = (name ≡ codes "replay") × IsReplay given args
IsCommand name given (ReplayAlgorithm args) = (name ≡ codes "replay") × IsAlgorithmReplay given args
IsCommand name given (Run args) = (name ≡ codes "run") × (args ≡ run_of given)
IsCommand name given (Hunt args) = (name ≡ codes "hunt") × IsHunt given args
IsCommand name given (HuntAlgorithm args) = (name ≡ codes "hunt") × IsAlgorithmHunt given args
IsCommand name given (Explore args) = (name ≡ codes "explore") × IsExplore given args
IsCommand name given (ExploreAlgorithm args) = (name ≡ codes "explore") × IsAlgorithmExplore given args
IsCommand name given (Cost args) = (name ≡ codes "cost") × AsksForCost given args
IsCommand name given (CostVariant args) = (name ≡ codes "cost") × AsksForVariantCost given args
IsCommand name given (MeanCost args) = (name ≡ codes "cost") × AsksForMeanCost given args
IsCommand name given (Export args) = (name ≡ codes "export") × AsksForModelOf given args
IsCommand name given (States args) = (name ≡ codes "states") × IsStates given args
IsCommand name given (StatesAlgorithm args) = (name ≡ codes "states") × IsAlgorithmStates given args
IsCommand name given (Judge args) = (name ≡ codes "judge") × IsJudge given args
IsCommand name given (Step file) =
    (name ≡ codes "step") × (option_map string_bytes file ≡ first_of (codes "FILE") given) × IsNone (first_of (codes "algorithm") given)
IsCommand name given (StepAlgorithm args) = (name ≡ codes "step") × IsAlgorithmStep given args
IsCommand name given (Draw args) = (name ≡ codes "draw") × IsDraw given args
IsCommand name given (DrawAlgorithm args) = (name ≡ codes "draw") × IsAlgorithmDraw given args
IsCommand name given (Shrink args) = (name ≡ codes "shrink") × IsShrink given args
IsCommand name given (ShrinkAlgorithm args) = (name ≡ codes "shrink") × IsAlgorithmShrink given args
IsCommand name given (Explain entry) = (name ≡ codes "explain") × (option_map name_of entry ≡ entry_named given)

-- ---- why what is given to a command is refused

-- there is no such variant, or it isn't `right` and an image is given
abbrev pub IsBadBesideImage : Given → Type 0
IsBadBesideImage given = AsksForNone (codes "right") given
    ⊎ ((variant : Variant) × AsksFor (codes "right") given variant × (variant ≢ Right) × IsSome (first_of (codes "image") given))

-- an algorithm is given beside a variant, an image or a file for the last image
abbrev pub IsBesideAlgorithm : Given → Type 0
IsBesideAlgorithm given = IsSome (first_of (codes "algorithm") given) × (IsAlone given → ⊥)

-- a variant is given that there is none of, or an algorithm too
abbrev pub IsBadVariant : Given → Type 0
IsBadVariant given = IsSome (first_of (codes "variant") given) × (AsksForNone [] given ⊎ IsSome (first_of (codes "algorithm") given))

-- the command runs the right lock, where neither a variant nor an algorithm is given
abbrev pub TakesImage : Text → Type 0
TakesImage name = (name ≡ codes "replay") ⊎ (name ≡ codes "draw")

-- the command wants a variant or an algorithm
abbrev pub NeedsLock : Text → Type 0
NeedsLock name = (name ≡ codes "hunt") ⊎ ((name ≡ codes "explore") ⊎ ((name ≡ codes "shrink") ⊎ ((name ≡ codes "states") ⊎ (name ≡ codes "cost"))))

abbrev pub HasBadVariant : Text → Given → Type 0
HasBadVariant name given = (TakesImage name × (IsBadBesideImage given ⊎ IsBesideAlgorithm given)) ⊎ (NeedsLock name × IsBadVariant given)

-- a search for stuck states is given a bound on moves
abbrev pub IsStuckWithin : Given → Type 0
IsStuckWithin given = (is_set (codes "stuck") given ≡ true) × IsSome (first_of (codes "moves") given)

-- a search for starvation is given no name of cycles, or a bound on moves
abbrev pub IsBadStarving : Given → Type 0
IsBadStarving given = AsksForNoCycles given ⊎ (IsSome (first_of (codes "starving") given) × IsSome (first_of (codes "moves") given))

-- a call of a variant's search is none, or its bound on moves is one too many, or its cycles have no name
abbrev pub IsBadSearch : Given → Type 0
IsBadSearch given =
    IsSome (first_of (codes "variant") given) × ((list_all is_call (calls_of given) ≡ false) ⊎ (IsStuckWithin given ⊎ IsBadStarving given))

-- a call of an algorithm's search is none of an algorithm, or the same of its bound and its cycles
abbrev pub IsBadAlgorithmSearch : Given → Type 0
IsBadAlgorithmSearch given = IsAlgorithmSearch given × ((are_algorithm_calls given ≡ false) ⊎ (IsStuckWithin given ⊎ IsBadStarving given))

-- there is something to search, and no such tool
abbrev pub IsBadTool : Given → Type 0
IsBadTool given = (IsNone (first_of (codes "variant") given) → IsAlgorithmSearch given) × AsksForNoTool given

-- the greatest cost is asked for, and a call is none of an algorithm
abbrev pub IsBadGreatestCost : Given → Type 0
IsBadGreatestCost given = HasNoRounds given × IsBadAlgorithmSearch given

-- the mean cost is asked for, and the numbers of its random schedules are outside their ranges
abbrev pub IsBadMeanCost : Given → Type 0
IsBadMeanCost given = HasNoSearch given × (IsHuntSize (cost_rounds_of given) (cost_steps_of given) → ⊥)

-- there is an algorithm whose costs are asked for, and a call or a number is bad, or there is no such model
abbrev pub IsBadAlgorithmCost : Given → Type 0
IsBadAlgorithmCost given = IsCostSearch given × (AsksForNoModel given ⊎ (IsBadGreatestCost given ⊎ IsBadMeanCost given))

-- the greatest cost of a variant is asked for, and a call is bad, or there is no such model
abbrev pub IsBadVariantCost : Given → Type 0
IsBadVariantCost given = HasNoRounds given × IsSome (first_of (codes "variant") given) × (AsksForNoModel given ⊎ IsBadSearch given)

abbrev pub IsBadCost : Given → Type 0
IsBadCost given = IsBadAlgorithmCost given ⊎ IsBadVariantCost given

-- a size of its worlds is given to a hunt
abbrev pub HasWorldSize : Given → Type 0
HasWorldSize given = IsSome (first_of (codes "procs") given) ⊎ IsSome (first_of (codes "limit") given)

-- the numbers of a variant's hunt are outside their ranges, or one too many
abbrev pub IsBadHunt : Given → Type 0
IsBadHunt given = IsSome (first_of (codes "variant") given) × ((AreHuntNumbers (rounds_of given) (moves_of given) → ⊥) ⊎ HasWorldSize given)

-- the numbers of an algorithm's hunt are outside their ranges
abbrev pub IsBadAlgorithmHunt : Given → Type 0
IsBadAlgorithmHunt given = IsSome (first_of (codes "algorithm") given) × (AreHuntNumbers (rounds_of given) (moves_of given) → ⊥)

-- a number is outside its range, or a hunt, a search or a tool is bad
abbrev pub IsOutOfRange : Text → Given → Type 0
IsOutOfRange name given =
    ((name ≡ codes "run") × (RunFits (run_of given) → ⊥))
    ⊎ (((name ≡ codes "hunt") × (IsBadHunt given ⊎ IsBadAlgorithmHunt given))
    ⊎ (((name ≡ codes "explore") × (IsBadSearch given ⊎ IsBadAlgorithmSearch given))
    ⊎ (((name ≡ codes "states") × ((IsBadSearch given ⊎ IsBadAlgorithmSearch given) ⊎ IsBadTool given))
    ⊎ ((name ≡ codes "cost") × IsBadCost given))))

-- the variant is good, and a size is bad
abbrev pub HasBadSize : Text → Given → Type 0
HasBadSize name given = (HasBadVariant name given → ⊥) × IsOutOfRange name given

-- the words to be explained are the name of no entry
abbrev pub HasNoEntry : Text → Given → Type 0
HasNoEntry name given = (name ≡ codes "explain") × IsSome (entry_named given)
    × ((entry : DictionaryEntry) → Some (name_of entry) ≢ entry_named given)

-- there is neither a variant nor an algorithm, or an algorithm is given an option that the command does not have for one
abbrev pub HasNoLock : Text → Given → Type 0
HasNoLock name given = IsNone (first_of (codes "variant") given)
    × (((name ≡ codes "explore") × (IsAlgorithmSearch given → ⊥))
    ⊎ (((name ≡ codes "hunt") × IsNone (first_of (codes "algorithm") given))
    ⊎ (((name ≡ codes "shrink") × IsNone (first_of (codes "algorithm") given))
    ⊎ ((name ≡ codes "states") × (IsAlgorithmSearch given → ⊥)))))

-- nothing whose costs are asked for is given, or an option that the command does not have for it
abbrev pub HasNoCosts : Text → Given → Type 0
HasNoCosts name given = (name ≡ codes "cost") × ((IsNone (first_of (codes "variant") given) × (IsCostSearch given → ⊥)) ⊎ (IsSome (first_of (codes "variant") given) × (IsBadVariant given → ⊥) × (HasNoRounds given → ⊥)))

-- there is no algorithm whose model is asked for
abbrev pub HasNoExport : Text → Given → Type 0
HasNoExport name given = (name ≡ codes "export") × IsNone (first_of (codes "promela") given)

-- words that `clap` takes are refused as it refuses words
abbrev pub HasBadWords : Text → Given → Type 0
HasBadWords name given = HasNoEntry name given ⊎ (HasNoLock name given ⊎ (HasNoCosts name given ⊎ HasNoExport name given))

-- out of memory comes at any time
abbrev pub IsFault : Text → Given → WordsFault → Type 0
IsFault name given (Help text) = ⊥
IsFault name given (Refused text) = HasBadWords name given
IsFault name given BadVariant = HasBadVariant name given
IsFault name given BadSize = HasBadSize name given
IsFault name given Unreadable = ⊥
IsFault name given OutOfMemory = Unit {0}

-- what is given to the command of this name is answered with it, or refused
abbrev pub ReadsCommand : Text → Given → Result Command WordsFault → Type 0
ReadsCommand name given result = MatchResult result (IsCommand name given) (IsFault name given)

-- ---- the words of a command line; the first one is the program's name

abbrev pub texts_of : List (String Global) → List Text
texts_of = map string_bytes

-- the name of a command
abbrev pub IsName : Text → Type 0
IsName name = list_any (λ shape. bytes_eq shape.name name) rmelab.subs ≡ true

-- `clap` takes the words, and P holds of the command's name and of what is given to it
abbrev pub TakesWords : List Text → (Text → Given → Type 0) → Type 0
TakesWords words P = (fault_of rmelab words ≡ []) × IsSomeAnd (subcommand_of rmelab words) (λ command. P command.0 command.1)

-- the kinds of an answer of `clap` that is no error
abbrev pub IsHelp : ErrorKind → Type 0
IsHelp kind = (kind ≡ kinds.DisplayHelp) ⊎ (kind ≡ kinds.DisplayVersion)

-- `clap` answers the words with its help or the version
abbrev pub AsksForHelp : List Text → Type 0
AsksForHelp words = (kind : ErrorKind) × IsAmong kind (fault_of rmelab words) × IsHelp kind

-- `clap` refuses the words
abbrev pub IsMistaken : List Text → Type 0
IsMistaken words = (kind : ErrorKind) × IsAmong kind (fault_of rmelab words) × (IsHelp kind → ⊥)

abbrev pub IsWordsRefusal : List Text → WordsFault → Type 0
IsWordsRefusal words (Help text) = AsksForHelp words
IsWordsRefusal words (Refused text) = TakesWords words HasBadWords ⊎ IsMistaken words
IsWordsRefusal words BadVariant = TakesWords words HasBadVariant
IsWordsRefusal words BadSize = TakesWords words HasBadSize
IsWordsRefusal words Unreadable = ⊥
IsWordsRefusal words OutOfMemory = Unit {0}

-- ---- the parts of reading

-- a list of calls is refused
abbrev pub IsFaultOfCalls : Given → WordsFault → Type 0
IsFaultOfCalls given BadSize = list_all is_call (calls_of given) ≡ false
IsFaultOfCalls given fault = fault ≡ OutOfMemory

-- a list of an algorithm's calls is refused
abbrev pub IsFaultOfAlgorithmCalls : Given → WordsFault → Type 0
IsFaultOfAlgorithmCalls given BadSize = are_algorithm_calls given ≡ false
IsFaultOfAlgorithmCalls given fault = fault ≡ OutOfMemory

-- the search that is asked for is refused
abbrev pub IsFaultOfSearch : Given → WordsFault → Type 0
IsFaultOfSearch given (Help text) = ⊥
IsFaultOfSearch given (Refused text) = IsNone (first_of (codes "variant") given) × (IsAlgorithmSearch given → ⊥)
IsFaultOfSearch given BadVariant = IsBadVariant given
IsFaultOfSearch given BadSize = (IsBadVariant given → ⊥) × (IsBadSearch given ⊎ IsBadAlgorithmSearch given)
IsFaultOfSearch given Unreadable = ⊥
IsFaultOfSearch given OutOfMemory = Unit {0}

-- what is to be done with lines of states is refused
abbrev pub IsFaultOfStream : Given → WordsFault → Type 0
IsFaultOfStream given BadSize = AsksForNoTool given
IsFaultOfStream given fault = fault ≡ OutOfMemory

-- an error of `clap` of this kind is answered
abbrev pub IsAnsweredBy : ErrorKind → WordsFault → Type 0
IsAnsweredBy kind (Help text) = IsHelp kind
IsAnsweredBy kind (Refused text) = (kind ≢ kinds.OutOfMemory) × (IsHelp kind → ⊥)
IsAnsweredBy kind fault = (fault ≡ OutOfMemory) × (kind ≡ kinds.OutOfMemory)

-- a name that no entry has is refused
abbrev pub IsUnnamed : WordsFault → Type 0
IsUnnamed (Refused text) = Unit {0}
IsUnnamed fault = fault ≡ OutOfMemory

-- the fault is answered, or there is no memory
abbrev pub RefusesWords : Result Command WordsFault → WordsFault → Type 0
RefusesWords result fault = (result ≡ Err fault) ⊎ (result ≡ Err OutOfMemory)
