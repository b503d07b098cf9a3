use Rattle.std.proofs.Common.{◌≡◌}
use Rattle.rmebench.proofs.work.enter.Given as goal

abbrev pub invariant-loop : goal.invariant-loop
invariant-loop g l = l.entries ≡ l.counter
