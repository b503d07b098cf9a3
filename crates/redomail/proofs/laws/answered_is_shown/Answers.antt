use Rattle.redomail.proofs.Among.{answered_is_shown}
use Rattle.redomail.proofs.laws.answered_is_shown.Goals as goal

pub returns : goal.returns
returns c = answered_is_shown
