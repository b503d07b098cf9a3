use Rattle.std.proofs.Common.{◌∙◌, ap, is_some}
use Rattle.algorithm_texts.specs.Grammar.{is_name_of}
use Rattle.algorithm_texts.specs.Operands.{named_constants}
use Rattle.algorithm_texts.proofs.Places.{some_place}
use Rattle.algorithm_texts.proofs.constants.is_constant_name.Goals as goal

pub returns : goal.returns
returns c = c.is_some.ensures ∙ ap is_some c.constant_place.ensures ∙ some_place (is_name_of c.args.word.now) (named_constants c.args.algorithm.now)
