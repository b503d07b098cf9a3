use Rattle.std.proofs.Common.{◌≡◌, ◌≢◌, ℕ, ◌+◌, ◌<◌, slice_index}
use Rattle.redomail.proofs.Common.{last_at}
use Rattle.redomail.proofs.contents.lasts_from.Given as goal

abbrev pub invariant-loop-q : goal.invariant-loop-q
invariant-loop-q l = (i q : ℕ) → q ≡ l.first + i → q < l.q → q ≢ l.but → slice_index l.words (last_at l.layout q) ≡ slice_index l.counts i
