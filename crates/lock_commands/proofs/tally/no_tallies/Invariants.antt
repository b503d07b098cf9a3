use Rattle.std.proofs.Common.{◌≡◌, []}
use Rattle.lock_commands.specs.Tallies.{tallies_by}
use Rattle.lock_commands.proofs.tally.no_tallies.Given as goal

abbrev pub invariant-loop-sender : goal.invariant-loop-sender
invariant-loop-sender l = l.tallies.items ≡ tallies_by l.sender []
