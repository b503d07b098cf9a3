use Rattle.std.proofs.Common.{◌∙◌, bytes_eq, string_bytes, rules}
use Rattle.std.proofs.lemmas.Iterator.{YieldsList-from_slice}
use Rattle.std.proofs.lemmas.Iterator.Search.{position_from_yields_List}
use borrow.Author.Tests.{tests}
use Rattle.algorithm_texts.proofs.Places.{position_map}
use Rattle.algorithm_texts.proofs.names.text_place.Goals as goal

pub returns : goal.returns
returns c =
    position_from_yields_List (λ other. bytes_eq (string_bytes other) c.args.word.now) _ _ _ c.position.ensures.ran (YieldsList-from_slice c.args.texts.now cc) (λ x b q k. search (rules, tests))
    ∙ position_map (λ name. bytes_eq name c.args.word.now) (λ name. string_bytes name) c.args.texts.now
