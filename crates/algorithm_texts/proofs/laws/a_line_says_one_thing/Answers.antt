use Rattle.algorithm_texts.proofs.LineTokens.{line_says_once}
use Rattle.algorithm_texts.proofs.laws.a_line_says_one_thing.Goals as goal

pub returns : goal.returns
returns c = line_says_once
