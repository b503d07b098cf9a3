use Rattle.std.proofs.Common.{◌∙◌, bytes_eq, string_bytes, rules}
use Rattle.std.proofs.lemmas.Iterator.{YieldsList-from_slice}
use Rattle.std.proofs.lemmas.Iterator.Search.{position_from_yields_List}
use borrow.Author.Tests.{tests}
use Rattle.algorithm_texts.proofs.Places.{position_map}
use Rattle.algorithm_texts.proofs.names.declaration_of.Goals as goal

pub returns : goal.returns
returns c =
    position_from_yields_List (λ d. bytes_eq (string_bytes d.name) c.args.word.now) _ _ _ c.position.ensures.ran (YieldsList-from_slice c.args.algorithm.now.declarations.items cc) (λ x b q k. search (rules, tests))
    ∙ position_map (λ name. bytes_eq name c.args.word.now) (λ d. string_bytes d.name) c.args.algorithm.now.declarations.items
