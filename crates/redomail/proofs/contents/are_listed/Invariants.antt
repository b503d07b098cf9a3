use Rattle.redomail.proofs.Common.{words_of}
use Rattle.redomail.proofs.Listed.{ListedUpTo}
use Rattle.redomail.proofs.contents.are_listed.Given as goal

abbrev pub invariant-loop-block : goal.invariant-loop-block
invariant-loop-block l = ListedUpTo l.layout (words_of l.words) (words_of l.words 2) l.but l.block
