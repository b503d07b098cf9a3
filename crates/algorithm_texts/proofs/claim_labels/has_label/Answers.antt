use Rattle.std.proofs.Common.{◌∙◌, ap, is_some}
use Rattle.algorithm_texts.specs.NeverClaims.{has_name}
use Rattle.algorithm_texts.proofs.Places.{some_place}
use Rattle.algorithm_texts.proofs.claim_labels.has_label.Goals as goal

pub returns : goal.returns
returns c = c.is_some.ensures ∙ ap is_some c.place_of_name.ensures ∙ some_place (has_name c.args.name.now) c.args.labels.now
