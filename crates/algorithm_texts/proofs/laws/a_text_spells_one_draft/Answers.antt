use Rattle.algorithm_texts.proofs.OneDraft.{spell_one}
use Rattle.algorithm_texts.proofs.laws.a_text_spells_one_draft.Goals as goal

pub returns : goal.returns
returns c = spell_one
