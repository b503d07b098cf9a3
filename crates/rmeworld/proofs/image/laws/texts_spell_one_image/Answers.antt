use Rattle.rmeworld.proofs.ImageSpelt.{one_image}
use Rattle.rmeworld.proofs.image.laws.texts_spell_one_image.Goals as goal

pub returns : goal.returns
returns c = one_image
