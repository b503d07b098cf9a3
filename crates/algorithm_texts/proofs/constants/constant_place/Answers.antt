use Rattle.std.proofs.Common.{◌∙◌, bytes_eq, string_bytes, rules}
use Rattle.std.proofs.lemmas.Iterator.{YieldsList-from_slice}
use Rattle.std.proofs.lemmas.Iterator.Search.{position_from_yields_List}
use borrow.Author.Tests.{tests}
use Rattle.algorithm_texts.specs.Parts.{term_of}
use Rattle.algorithm_texts.specs.Grammar.{is_name_of}
use Rattle.algorithm_texts.proofs.Places.{position_map}
use Rattle.algorithm_texts.proofs.constants.constant_place.Goals as goal

pub returns : goal.returns
returns c =
    position_from_yields_List (λ k. bytes_eq (string_bytes k.name) c.args.word.now) _ _ _ c.position.ensures.ran (YieldsList-from_slice c.args.algorithm.now.constants.items cc) (λ x b q k. search (rules, tests))
    ∙ position_map (is_name_of c.args.word.now) (λ k. (string_bytes k.name, term_of k.value)) c.args.algorithm.now.constants.items
