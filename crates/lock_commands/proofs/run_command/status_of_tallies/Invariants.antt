use Rattle.std.proofs.Common.{ℕ, ◌<◌, slice_index_or}
use Rattle.lock_commands.specs.declared.tally.SenderTally.{SenderTally}
use Rattle.lock_commands.specs.Tallies.{IsFine}
use Rattle.lock_commands.proofs.run_command.status_of_tallies.Given as goal

abbrev pub invariant-loop-tally : goal.invariant-loop-tally
invariant-loop-tally l = (k : ℕ) (d : SenderTally) → k < l.tally-index → IsFine (slice_index_or l.tallies k d)
