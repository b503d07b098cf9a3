use Rattle.std.proofs.Common.{◌≡◌, map, take}
use Rattle.algorithm_texts.specs.TextDrafts.{owner_token}
use Rattle.algorithm_texts.proofs.first_values.owner_tokens.Given as goal

-- the tokens so far
abbrev pub invariant-loop-token : goal.invariant-loop-token
invariant-loop-token l = l.all.items ≡ map owner_token (take l.token-index l.tokens)
