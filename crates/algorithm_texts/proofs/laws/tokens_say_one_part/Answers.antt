use Rattle.algorithm_texts.proofs.Stacked.{say_one_part}
use Rattle.algorithm_texts.proofs.laws.tokens_say_one_part.Goals as goal

pub returns : goal.returns
returns c = say_one_part
