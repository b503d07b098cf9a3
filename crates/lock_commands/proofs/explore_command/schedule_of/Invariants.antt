use Rattle.std.proofs.Common.{◌≡◌, map, take}
use Rattle.crashlab.specs.space.Spaces.{line_by}
use Rattle.lock_commands.proofs.explore_command.schedule_of.Given as goal

abbrev pub invariant-loop-made : goal.invariant-loop-made
invariant-loop-made l = l.schedule ≡ record { procs = l.args.procs; limit = l.args.limit; cap = l.args.cap; width = l.args.width; lines = map line_by (take l.made-index l.path) }
