use Rattle.std.proofs.Common.{◌≡◌, Ok, map}
use Rattle.algorithm_texts.specs.Tokens.{answer_from}
use Rattle.algorithm_texts.proofs.tokens.answer_of.Given as goal

-- the answer that the parts so far say
abbrev pub invariant-loop-part : goal.invariant-loop-part
invariant-loop-part l = answer_from (map (λ part. part.now) l.yielded) ≡ Ok l.answer.items
