use Rattle.algorithm_texts.proofs.SameAlgorithms.{spell_alike}
use Rattle.algorithm_texts.proofs.laws.a_text_spells_one_algorithm.Goals as goal

pub returns : goal.returns
returns c = spell_alike
