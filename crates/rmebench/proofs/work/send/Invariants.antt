use Rattle.std.proofs.Common.{◌≡◌, ◌+◌}
use Rattle.rmebench.proofs.work.send.Given as goal

abbrev pub invariant-loop-seq : goal.invariant-loop-seq
invariant-loop-seq g l = l.stored + 1 ≡ l.seq
