-- The command line of `rmelab`, as `clap` reads it: the commands and the arguments of each (docs/use/command-line.md).
use Rattle.std.specs.Prelude.{◌≡◌, List, [], ◌∷◌, true, false, Some, codes}
use Rattle.clap.specs.Words.{App, Rule, Shape, Text, new_rule, app_of, with_subcommand}
use Rattle.clap.specs.declared.builder.command.Command.{Command as Parser}
use Rattle.clap.specs.declared.builder.command.Command.TheViews.{out-Command}
use Rattle.clap.specs.Simple.{new_shape}
use Rattle.clap.specs.declared.builder.action.ArgAction.TheVariants.{Set, SetTrue, Append}
use Rattle.clap.specs.declared.builder.value_parser.ValueParser.TheVariants.{Unsigned}
use Rattle.cli.specs.declared.arguments.argument.Argument.{Argument}
use Rattle.cli.specs.declared.arguments.argument.Argument.TheVariants.{Flag, Text as TextOption, RequiredText, Number, RequiredNumber, Optional, Word, RequiredWord, Words as AllWords}
use Rattle.cli.specs.declared.arguments.parser.ParserPart.{ParserPart}
use Rattle.cli.specs.declared.arguments.parser.ParserPart.TheVariants as parts

-- `--name`
abbrev pub flag : Text → Rule
flag name = record (new_rule name) { long = Some name; action = Some SetTrue }

-- `--name VALUE`
abbrev pub option : Text → Rule
option name = record (new_rule name) { long = Some name; action = Some Set; value_names = 1 }

-- `--name VALUE`, the value a number from 0 to 2^64 - 1
abbrev pub number : Text → Rule
number name = record (option name) { parser = Some (Unsigned 0 18446744073709551615) }

-- `--name` or `--name VALUE`: without a value it has the value `without`
abbrev pub optional : Text → Text → Rule
optional without name = record (option name) { range = Some (record { start_inclusive = 0; end_inclusive = 1 }); missing = without ∷ [] }

-- a word alone
abbrev pub word : Text → Rule
word name = record (new_rule name) { action = Some Set }

-- all words that are left
abbrev pub words : Text → Rule
words name = record (new_rule name) { action = Some Append }

-- the argument can't be left out
abbrev pub required_rule : Rule → Rule
required_rule rule = record rule { required = true }

-- how `clap` reads an argument
abbrev pub rule_of_argument : Argument → Rule
rule_of_argument (Flag name help) = flag name.now
rule_of_argument (TextOption name value help) = option name.now
rule_of_argument (RequiredText name value help) = required_rule (option name.now)
rule_of_argument (Number name value help) = number name.now
rule_of_argument (RequiredNumber name value help) = required_rule (number name.now)
rule_of_argument (Optional name value help without) = optional without.now name.now
rule_of_argument (Word name help) = word name.now
rule_of_argument (RequiredWord name help) = required_rule (word name.now)
rule_of_argument (AllWords name help) = words name.now

-- a command with these arguments, and no command below it
abbrev pub part : Text → List Rule → Shape
part name rules = record (new_shape name) { rules = rules }

abbrev pub app_of_shape : Shape → App
app_of_shape shape = record { top = shape; subs = [] }

abbrev pub variant : Rule
variant = option (codes "variant")

abbrev pub algorithm : Rule
algorithm = option (codes "algorithm")

abbrev pub starving : Rule
starving = optional (codes "nobody") (codes "starving")

abbrev pub replay : Shape
replay = part (codes "replay") (flag (codes "json") ∷ flag (codes "each") ∷ variant ∷ algorithm ∷ option (codes "image")
    ∷ option (codes "save") ∷ word (codes "FILE") ∷ [])

abbrev pub run : Shape
run = part (codes "run") (required_rule (number (codes "procs")) ∷ required_rule (number (codes "messages")) ∷ required_rule (number (codes "crash")) ∷ required_rule (number (codes "seed")) ∷ number (codes "width") ∷ [])

abbrev pub hunt : Shape
hunt = part (codes "hunt") (
    variant ∷ algorithm ∷ number (codes "procs") ∷ number (codes "limit") ∷ required_rule (number (codes "seed")) ∷ number (codes "first-round")
    ∷ required_rule (number (codes "rounds"))
    ∷ required_rule (number (codes "steps")) ∷ number (codes "system-crashes") ∷ flag (codes "shrink") ∷ number (codes "jobs") ∷ [])

abbrev pub explore : Shape
explore = part (codes "explore") (
    variant ∷ algorithm ∷ required_rule (number (codes "procs")) ∷ option (codes "calls") ∷ number (codes "crashes")
    ∷ number (codes "system-crashes") ∷ number (codes "moves") ∷ number (codes "states") ∷ number (codes "limit") ∷ number (codes "cap") ∷ number (codes "width")
    ∷ flag (codes "stuck") ∷ starving ∷ flag (codes "all-variables") ∷ number (codes "jobs") ∷ [])

abbrev pub cost : Shape
cost = part (codes "cost") (
    variant ∷ algorithm ∷ required_rule (option (codes "model")) ∷ flag (codes "super-passages") ∷ required_rule (number (codes "procs"))
    ∷ option (codes "calls") ∷ number (codes "crashes") ∷ number (codes "system-crashes") ∷ number (codes "states") ∷ number (codes "limit")
    ∷ flag (codes "mean") ∷ number (codes "seed") ∷ number (codes "rounds") ∷ number (codes "steps") ∷ [])

abbrev pub export : Shape
export = part (codes "export") (
    required_rule (option (codes "promela")) ∷ required_rule (number (codes "procs")) ∷ number (codes "crashes") ∷ number (codes "limit") ∷ [])

abbrev pub states : Shape
states = part (codes "states") (
    required_rule (word (codes "TOOL")) ∷ variant ∷ algorithm ∷ required_rule (number (codes "procs")) ∷ option (codes "calls")
    ∷ number (codes "crashes") ∷ number (codes "system-crashes") ∷ number (codes "limit") ∷ number (codes "cap") ∷ number (codes "width")
    ∷ number (codes "words") ∷ number (codes "digits") ∷ number (codes "part") ∷ number (codes "parts") ∷ word (codes "FILE") ∷ [])

abbrev pub judge : Shape
judge = part (codes "judge") (flag (codes "json") ∷ word (codes "FILE") ∷ [])

abbrev pub draw : Shape
draw = part (codes "draw") (variant ∷ algorithm ∷ option (codes "image") ∷ flag (codes "svg") ∷ flag (codes "html") ∷ word (codes "FILE") ∷ [])

abbrev pub shrink : Shape
shrink = part (codes "shrink") (variant ∷ algorithm ∷ word (codes "FILE") ∷ [])

abbrev pub step : Shape
step = part (codes "step") (algorithm ∷ word (codes "FILE") ∷ [])

abbrev pub explain : Shape
explain = part (codes "explain") (words (codes "WORDS") ∷ [])

-- the program itself, before its commands
abbrev pub head : Shape
head = record (new_shape (codes "rmelab")) { has_version = true; subcommand_required = true }

abbrev pub shape_of_part : ParserPart → Shape
shape_of_part parts.Replay = replay
shape_of_part parts.Run = run
shape_of_part parts.Hunt = hunt
shape_of_part parts.Explore = explore
shape_of_part parts.Cost = cost
shape_of_part parts.Export = export
shape_of_part parts.States = states
shape_of_part parts.Judge = judge
shape_of_part parts.Draw = draw
shape_of_part parts.Shrink = shrink
shape_of_part parts.Step = step
shape_of_part parts.Explain = explain

-- with these commands too
abbrev pub with_subcommands : App → List Shape → App
with_subcommands app [] = app
with_subcommands app (shape ∷ shapes) = with_subcommands (with_subcommand app shape) shapes

abbrev pub rmelab : App
rmelab = record {
  top = record head { is_leaf = false };
  subs = replay ∷ run ∷ hunt ∷ explore ∷ cost ∷ export ∷ states ∷ judge ∷ draw ∷ shrink ∷ step ∷ explain ∷ [];
}

-- the parser reads this command line, and no argument of a command is one of the others too
abbrev pub IsParser : App → Parser → Type 0
IsParser app parser = (app_of parser ≡ app) × ((out-Command parser).has_globals ≡ false)
