use Rattle.std.proofs.Common.{◌≡◌}
use Rattle.redomail.proofs.Common.{words_of, entries}
use Rattle.redomail.proofs.contents.messages_below.Given as goal

abbrev pub invariant-loop-a : goal.invariant-loop-a
invariant-loop-a g l = l.messages.items ≡ entries l.layout (words_of l.words) l.a
