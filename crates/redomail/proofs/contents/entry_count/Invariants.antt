use Rattle.std.proofs.Common.{◌≡◌, ◌≤◌}
use Rattle.redomail.proofs.Common.{words_of, count_of, entries}
use Rattle.redomail.proofs.contents.entry_count.Given as goal

abbrev pub invariant-loop-a : goal.invariant-loop-a
invariant-loop-a l = record {
  most : l.counted ≤ l.a;
  counted : l.counted ≡ count_of l.p (entries l.layout (words_of l.words) l.a);
}
