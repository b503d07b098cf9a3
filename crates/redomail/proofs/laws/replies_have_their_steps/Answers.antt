use Rattle.redomail.proofs.Steps.{steps_reported}
use Rattle.redomail.proofs.laws.replies_have_their_steps.Goals as goal

pub returns : goal.returns
returns c = steps_reported
