use Rattle.std.proofs.Common.{take, map}
use Rattle.cli.specs.CommandLine.{IsParser, app_of_shape, part, rule_of_argument}
use Rattle.cli.proofs.arguments.parser.command.Given as goal

abbrev pub invariant-loop-argument : goal.invariant-loop-argument
invariant-loop-argument l = IsParser (app_of_shape (part l.name (map rule_of_argument (take l.argument-index l.arguments)))) l.command
