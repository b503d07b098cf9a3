use Rattle.std.proofs.Common.{◌≡◌, map}
use Rattle.rme_c.proofs.Common.{range_with_len, own_in}
use Rattle.rme_c.proofs.blocks.owns.Given as goal

abbrev pub invariant-loop-p : goal.invariant-loop-p
invariant-loop-p l = l.all.items ≡ map (own_in l.words) (range_with_len 0 l.p)
