use Rattle.std.proofs.Common.{◌≡◌, ◌++◌}
use Rattle.lock_commands.specs.Explores.{appends}
use Rattle.lock_commands.proofs.explore_command.put_appends.Given as goal

abbrev pub invariant-loop-seq : goal.invariant-loop-seq
invariant-loop-seq l = l.calls.items ≡ l.initial.calls.items ++ appends l.args.width l.seq
