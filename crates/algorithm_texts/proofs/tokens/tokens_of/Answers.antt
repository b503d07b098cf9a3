use Rattle.std.specs.List.{slice_split}
use Rattle.std.proofs.Common.{eqb}
use Rattle.algorithm_texts.proofs.Replies.{answer_ascii}
use Rattle.algorithm_texts.proofs.tokens.tokens_of.Goals as goal

pub returns-clause-ascii : goal.returns-clause-ascii
returns-clause-ascii c = answer_ascii (slice_split (λ b. eqb b 32) c.in_ok-rest.rest.now) c.in_ok-answer.answer.items c.in_ok-answer.ensures.ok
