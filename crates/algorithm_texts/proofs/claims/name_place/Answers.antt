use Rattle.std.proofs.Common.{ap, ◌∙◌, bytes_eq, position}
use Rattle.algorithm_texts.specs.Operands.{names_of}
use Rattle.algorithm_texts.proofs.claims.name_place.Goals as goal

pub returns : goal.returns
returns c = c.index_of.ensures ∙ ap (λ w. position (λ other. bytes_eq other w) (names_of c.args.algorithm.now)) c.as_bytes.ensures.letters
