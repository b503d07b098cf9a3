use Rattle.algorithm_texts.proofs.Sayings.{are_read_as_said}
use Rattle.algorithm_texts.proofs.laws.tokens_are_read_as_said.Goals as goal

pub returns : goal.returns
returns c = are_read_as_said
