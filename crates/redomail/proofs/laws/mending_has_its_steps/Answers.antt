use Rattle.redomail.proofs.Steps.{consistent_reported}
use Rattle.redomail.proofs.laws.mending_has_its_steps.Goals as goal

pub returns : goal.returns
returns c = consistent_reported
