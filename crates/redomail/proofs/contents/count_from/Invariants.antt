use Rattle.std.proofs.Common.{◌≡◌, ◌+◌, length}
use Rattle.redomail.proofs.Common.{AreCountsFrom, IsNumberedIn, words_of}
use Rattle.redomail.proofs.contents.count_from.Given as goal

abbrev pub invariant-loop-a : goal.invariant-loop-a
invariant-loop-a l = record {
  long : length l.counts ≡ length l.fn.counts;
  counts : AreCountsFrom l.layout l.words l.a l.first l.counts;
  numbered : IsNumberedIn l.layout (words_of l.words) l.a l.first (l.first + length l.counts);
}
