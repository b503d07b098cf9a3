use Rattle.algorithm_texts.proofs.OneDraft.{begin_at_zero}
use Rattle.algorithm_texts.proofs.laws.a_text_without_values_begins_at_zero.Goals as goal

pub returns : goal.returns
returns c = begin_at_zero
