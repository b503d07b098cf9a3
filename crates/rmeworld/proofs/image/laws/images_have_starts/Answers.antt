use Rattle.rmeworld.proofs.FirstStart.{has_start}
use Rattle.rmeworld.proofs.image.laws.images_have_starts.Goals as goal

pub returns : goal.returns
returns c = has_start
