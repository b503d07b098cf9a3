use Rattle.std.proofs.Common.{◌∙◌, rules}
use Rattle.std.proofs.lemmas.Iterator.{YieldsList-from_slice}
use Rattle.std.proofs.lemmas.Iterator.Search.{position_from_yields_List}
use borrow.Author.Tests.{tests}
use Rattle.algorithm_texts.specs.Drafts.{line_of}
use Rattle.algorithm_texts.specs.NeverClaims.{is_access_line}
use Rattle.algorithm_texts.proofs.Places.{position_map}
use Rattle.algorithm_texts.proofs.claim_labels.access_among.Goals as goal

pub returns : goal.returns
returns c =
    position_from_yields_List (λ l. is_access_line (line_of l)) _ _ _ c.position.ensures.ran (YieldsList-from_slice c.args.lines.now cc) (λ x b q k. search (rules, tests))
    ∙ position_map is_access_line line_of c.args.lines.now
