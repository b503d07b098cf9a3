use Rattle.std.proofs.Common.{ap, ◌∙◌, bytes_eq, position}
use Rattle.algorithm_texts.specs.Operands.{declared_of}
use Rattle.algorithm_texts.proofs.accesses.declaration_named.Goals as goal

pub returns : goal.returns
returns c = c.declaration_of.ensures ∙ ap (λ w. position (λ other. bytes_eq other w) (declared_of c.args.algorithm.now)) c.as_bytes.ensures.letters
