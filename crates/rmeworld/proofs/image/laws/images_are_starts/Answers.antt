use Rattle.rmeworld.proofs.ImageJudged.{is_start}
use Rattle.rmeworld.proofs.image.laws.images_are_starts.Goals as goal

pub returns : goal.returns
returns c = is_start
