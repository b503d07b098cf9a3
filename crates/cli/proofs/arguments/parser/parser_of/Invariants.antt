use Rattle.std.proofs.Common.{take, map}
use Rattle.cli.specs.CommandLine.{IsParser, app_of_shape, head, shape_of_part, with_subcommands}
use Rattle.cli.proofs.arguments.parser.parser_of.Given as goal

abbrev pub invariant-loop-part : goal.invariant-loop-part
invariant-loop-part l = IsParser (with_subcommands (app_of_shape head) (map shape_of_part (take l.part-index l.parts))) l.whole
