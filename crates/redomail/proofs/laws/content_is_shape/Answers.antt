use Rattle.redomail.proofs.Readings.{content_is_shape}
use Rattle.redomail.proofs.laws.content_is_shape.Goals as goal

pub returns : goal.returns
returns c = content_is_shape
