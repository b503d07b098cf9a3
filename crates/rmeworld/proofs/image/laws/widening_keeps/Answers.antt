use Rattle.rmeworld.proofs.ImageWidens.{wider_is_lawful, wider_shows}
use Rattle.rmeworld.proofs.image.laws.widening_keeps.Goals as goal

pub returns : goal.returns
returns c = λ wide i j k least most h. (wider_is_lawful wide i j k least most h, wider_shows wide i j k least most h)
