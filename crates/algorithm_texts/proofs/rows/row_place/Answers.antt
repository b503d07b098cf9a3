use Rattle.std.proofs.Common.{◌∙◌, bytes_eq, string_bytes, rules}
use Rattle.std.proofs.lemmas.Iterator.{YieldsList-from_slice}
use Rattle.std.proofs.lemmas.Iterator.Search.{position_from_yields_List}
use borrow.Author.Tests.{tests}
use Rattle.algorithm_texts.specs.Grammar.{is_row_of}
use Rattle.algorithm_texts.specs.Operands.{row_of}
use Rattle.algorithm_texts.proofs.Places.{position_map}
use Rattle.algorithm_texts.proofs.rows.row_place.Goals as goal

pub returns : goal.returns
returns c =
    position_from_yields_List (λ row. bytes_eq (string_bytes row.name) c.args.word.now) _ _ _ c.position.ensures.ran (YieldsList-from_slice c.args.algorithm.now.rows.items cc) (λ x b q k. search (rules, tests))
    ∙ position_map (is_row_of c.args.word.now) row_of c.args.algorithm.now.rows.items
