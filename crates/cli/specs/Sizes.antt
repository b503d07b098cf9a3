-- The ranges of the program's numbers (Limits of docs/theory/model.md).
use Rattle.std.specs.Prelude.{◌≤◌, ◌+◌, ℕ}
use Rattle.crashlab.specs.declared.hunts.random_moves.RandomMoves.{RandomMoves}
use Rattle.cli.specs.declared.arguments.args.Command.{Command}
use Rattle.cli.specs.declared.arguments.args.Command.TheVariants.{Replay, ReplayAlgorithm, Run, Hunt, HuntAlgorithm, Explore, ExploreAlgorithm, Cost, CostVariant, MeanCost, Export, States, StatesAlgorithm, Judge, Draw, DrawAlgorithm, Shrink, ShrinkAlgorithm, Step, StepAlgorithm, Explain}
use Rattle.cli.specs.declared.arguments.args.HuntArgs.{HuntArgs}
use Rattle.cli.specs.declared.arguments.args.RunArgs.{RunArgs}

-- the rounds of a hunt, or of random schedules whose costs are counted, and the moves of a round
abbrev pub IsHuntSize : ℕ → ℕ → Type 0
IsHuntSize rounds steps = ((1 ≤ rounds) × (rounds ≤ 10000)) × (1 ≤ steps) × (steps ≤ 10000)

-- the same of a hunt with its crashes of all processes, which are counted in 1,000 moves
abbrev pub AreHuntNumbers : ℕ → RandomMoves → Type 0
AreHuntNumbers rounds moves = IsHuntSize rounds moves.steps × (moves.system_crashes ≤ 1000)

-- the same of a hunt that begins with this round: the number of its last round is in its range too
abbrev pub IsHuntPart : ℕ → ℕ → RandomMoves → Type 0
IsHuntPart first rounds moves = AreHuntNumbers rounds moves × (first + rounds ≤ 10000)

-- the numbers of a hunt are in their ranges
abbrev pub HuntFits : HuntArgs → Type 0
HuntFits args = IsHuntPart args.first_round args.rounds args.moves

-- the processes, the messages of each, the crashes in 1,000 askings, and the words of a message
abbrev pub RunFits : RunArgs → Type 0
RunFits args = ((1 ≤ args.procs) × (args.procs ≤ 16)) × ((1 ≤ args.messages) × (args.messages ≤ 4096)) × (args.crash ≤ 50) × (1 ≤ args.width) × (args.width ≤ 8)

-- the numbers of a command are in their ranges
abbrev pub IsInRanges : Command → Type 0
IsInRanges (Replay args) = Unit {0}
IsInRanges (ReplayAlgorithm args) = Unit {0}
IsInRanges (Run args) = RunFits args
IsInRanges (Hunt args) = AreHuntNumbers args.rounds args.moves
IsInRanges (HuntAlgorithm args) = AreHuntNumbers args.rounds args.moves
IsInRanges (Explore args) = Unit {0}
IsInRanges (ExploreAlgorithm args) = Unit {0}
IsInRanges (Cost args) = Unit {0}
IsInRanges (CostVariant args) = Unit {0}
IsInRanges (MeanCost args) = IsHuntSize args.rounds args.steps
IsInRanges (Export args) = Unit {0}
IsInRanges (States args) = Unit {0}
IsInRanges (StatesAlgorithm args) = Unit {0}
IsInRanges (Judge file) = Unit {0}
IsInRanges (Step file) = Unit {0}
IsInRanges (StepAlgorithm args) = Unit {0}
IsInRanges (Draw args) = Unit {0}
IsInRanges (DrawAlgorithm args) = Unit {0}
IsInRanges (Shrink args) = Unit {0}
IsInRanges (ShrinkAlgorithm args) = Unit {0}
IsInRanges (Explain dictionary_entry) = Unit {0}
