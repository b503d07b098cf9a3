use Rattle.redomail.proofs.Among.{numbers_are_shown}
use Rattle.redomail.proofs.laws.numbers_are_shown.Goals as goal

pub returns : goal.returns
returns c = numbers_are_shown
