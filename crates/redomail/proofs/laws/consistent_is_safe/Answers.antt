use Rattle.redomail.proofs.Begins.{consistent_safe}
use Rattle.redomail.proofs.laws.consistent_is_safe.Goals as goal

pub returns : goal.returns
returns c = consistent_safe
