use Rattle.std.proofs.Common.{eqb, rules}
use Rattle.std.proofs.lemmas.Iterator.Search.{all_from_yields_List}
use Rattle.std.proofs.lemmas.Iterator.Splits.{YieldsList-from_slice_split}
use borrow.Author.Tests.{tests}
use Rattle.algorithm_texts.specs.Tokens.{is_answer_part}
use Rattle.algorithm_texts.proofs.tokens.is_answer_word.Goals as goal

pub returns : goal.returns
returns c =
    all_from_yields_List is_answer_part _ _ _ c.all.ensures.ran
    (YieldsList-from_slice_split _ (λ b. eqb b 45) c.args.word.now c.split.ensures.rest c.split.ensures.done c.split.ensures.closure (λ x b q k. search (rules, tests)))
    (λ x b q k. search (rules, tests))
