unfoldable use Rattle.algorithm_texts.specs.Operands.{reserved}
use Rattle.algorithm_texts.proofs.names.is_reserved.Goals as goal

pub returns : goal.returns
unfolding reserved
returns c = c.is_one_of.ensures
