use Rattle.std.proofs.Common.{bytes_eq, rules}
use Rattle.std.proofs.lemmas.Iterator.{YieldsList-from_slice}
use Rattle.std.proofs.lemmas.Iterator.Search.{position_from_yields_List}
use borrow.Author.Tests.{tests}
use Rattle.algorithm_texts.specs.NeverClaims.{has_name}
use Rattle.algorithm_texts.proofs.claim_labels.place_of_name.Goals as goal

pub returns : goal.returns
returns c = position_from_yields_List (has_name c.args.name.now) _ _ _ c.position.ensures.ran (YieldsList-from_slice c.args.labels.now cc) (λ x b q k. search (rules, tests))
