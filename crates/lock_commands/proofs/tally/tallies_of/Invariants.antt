use Rattle.std.proofs.Common.{take}
use Rattle.lock_commands.proofs.Tallies.{AreCounted}
use Rattle.lock_commands.proofs.tally.tallies_of.Given as goal

abbrev pub invariant-loop-message : goal.invariant-loop-message
invariant-loop-message l = AreCounted l.procs (take l.message-index l.messages) l.tallies.items l.met.keys
