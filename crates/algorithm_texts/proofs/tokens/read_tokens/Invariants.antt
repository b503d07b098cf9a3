use Rattle.std.proofs.Common.{length}
use Rattle.algorithm_texts.proofs.LineTokens.{AreRead}
use Rattle.algorithm_texts.proofs.tokens.read_tokens.Given as goal

abbrev pub invariant-loop-first : goal.invariant-loop-first
invariant-loop-first l = AreRead l.fn.all.items l.bytes l.all.items l.rest

abbrev pub decreases-loop-first : goal.decreases-loop-first
decreases-loop-first l = length l.rest
