use Rattle.redomail.proofs.Keeps.{steps_stay_safe}
use Rattle.redomail.proofs.laws.steps_stay_safe.Goals as goal

pub returns : goal.returns
returns c = steps_stay_safe
