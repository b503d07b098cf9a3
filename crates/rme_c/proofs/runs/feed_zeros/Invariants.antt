use Rattle.std.proofs.Common.{◌≡◌, true, is_none}
use Rattle.rme_c.proofs.Common.{next_access, machine_state_of}
use Rattle.rme_c.specs.Runs.{counted_of, fed_zeros}
use Rattle.rme_c.proofs.runs.feed_zeros.Given as goal

abbrev pub invariant-loop-k : goal.invariant-loop-k
invariant-loop-k l = (counted_of l.p ≡ fed_zeros l.k (counted_of l.fn.p)) × (is_none (next_access (machine_state_of l.fn.p)) ≡ true → l.p ≡ l.fn.p)
