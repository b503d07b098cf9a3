-- The files that a command names.
use Rattle.std.specs.Prelude.{String, Option, Some, None}
use Rattle.std.specs.declared.alloc.Global.{Global}
use Rattle.cli.specs.declared.arguments.args.Command.{Command}
use Rattle.cli.specs.declared.arguments.args.Command.TheVariants.{Replay, ReplayAlgorithm, HuntAlgorithm, ExploreAlgorithm, Cost, MeanCost, Export, States, StatesAlgorithm, Judge, Draw, DrawAlgorithm, Shrink, ShrinkAlgorithm, Step, StepAlgorithm}

-- the file that is read first: an image, an algorithm, or the schedule that a session on the lock starts from
abbrev pub image_of : Command → Option (String Global)
image_of (Replay args) = args.image
image_of (ReplayAlgorithm args) = Some args.algorithm
image_of (HuntAlgorithm args) = Some args.algorithm
image_of (ExploreAlgorithm args) = Some args.algorithm
image_of (Cost args) = Some args.search.algorithm
image_of (MeanCost args) = Some args.algorithm
image_of (Export args) = Some args.algorithm
image_of (StatesAlgorithm args) = Some args.search.algorithm
image_of (Draw args) = args.image
image_of (DrawAlgorithm args) = Some args.algorithm
image_of (ShrinkAlgorithm args) = Some args.algorithm
image_of (Step file) = file
image_of (StepAlgorithm args) = Some args.algorithm
image_of command = None

-- the file that is read next: the schedule that a session on an algorithm starts from
abbrev pub start_of : Command → Option (String Global)
start_of (StepAlgorithm args) = args.file
start_of command = None

-- the text that is read; without a file, standard input
abbrev pub input_of : Command → Option (String Global)
input_of (Replay args) = args.file
input_of (ReplayAlgorithm args) = args.file
input_of (States args) = args.stream.file
input_of (StatesAlgorithm args) = args.stream.file
input_of (Judge args) = args.file
input_of (Draw args) = args.file
input_of (DrawAlgorithm args) = args.file
input_of (Shrink args) = args.file
input_of (ShrinkAlgorithm args) = args.file
input_of command = None

-- the file to which the last image is written
abbrev pub save_of : Command → Option (String Global)
save_of (Replay args) = args.save
save_of command = None
