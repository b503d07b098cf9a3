use Rattle.std.proofs.Common.{◌≡◌, ◌+◌}
use Rattle.one_lock.proofs.Common.{new_seats}
use Rattle.one_lock.proofs.arena.members_of.Given as goal

abbrev pub invariant-loop-process : goal.invariant-loop-process
invariant-loop-process g l = (l.all.amount ≡ 0) × (l.all.parts + l.process ≡ l.layout.procs) × (l.members.items ≡ new_seats l.layout l.limit l.process)
