use Rattle.std.proofs.Common.{length}
use Rattle.algorithm_texts.proofs.lines.Draft.+claim_tokens.Given as goal

abbrev pub decreases-claim_tokens : goal.decreases-claim_tokens
decreases-claim_tokens l = length l.tokens.now
