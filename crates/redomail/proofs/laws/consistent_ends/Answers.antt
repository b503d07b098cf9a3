use Rattle.redomail.proofs.Endings.{consistent_ends}
use Rattle.redomail.proofs.laws.consistent_ends.Goals as goal

pub returns : goal.returns
returns c = consistent_ends
