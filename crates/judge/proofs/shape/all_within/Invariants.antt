use Rattle.std.proofs.Common.{ℕ, ◌<◌, ◌≤◌, slice_index}
use Rattle.judge.proofs.shape.all_within.Given as goal

abbrev pub invariant-loop-count : goal.invariant-loop-count
invariant-loop-count l = (p : ℕ) → p < l.count-index → slice_index l.counts p ≤ l.most
