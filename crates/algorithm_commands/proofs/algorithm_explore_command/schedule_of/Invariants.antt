use Rattle.std.proofs.Common.{◌≡◌, map, take}
use Rattle.algorithm_commands.specs.AlgorithmFindings.{line_by}
use Rattle.algorithm_commands.proofs.algorithm_explore_command.schedule_of.Given as goal

abbrev pub invariant-loop-made : goal.invariant-loop-made
invariant-loop-made l =
    l.schedule ≡ record { procs = l.args.procs; limit = l.args.limit; cap = 1; width = 1; lines = map line_by (take l.made-index l.path) }
