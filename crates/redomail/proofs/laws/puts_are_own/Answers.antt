use Rattle.redomail.proofs.Owns.{puts_are_own}
use Rattle.redomail.proofs.laws.puts_are_own.Goals as goal

pub returns : goal.returns
returns c = puts_are_own
