use Rattle.redomail.proofs.Readings.{at_zeros}
use Rattle.redomail.proofs.contents.counters.Goals as goal

pub returns : goal.returns
returns c = λ q. at_zeros 64 q
