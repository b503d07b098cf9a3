use Rattle.std.proofs.Common.{◌∙◌, ap, is_some, bytes_eq}
use Rattle.algorithm_texts.specs.Operands.{names_of}
use Rattle.algorithm_texts.proofs.Places.{some_place}
use Rattle.algorithm_texts.proofs.names.is_private.Goals as goal

pub returns : goal.returns
returns c = c.is_some.ensures ∙ ap is_some c.index_of.ensures ∙ some_place (λ name. bytes_eq name c.args.word.now) (names_of c.args.algorithm.now)
