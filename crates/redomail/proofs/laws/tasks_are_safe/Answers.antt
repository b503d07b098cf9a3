use Rattle.redomail.proofs.Begins.{begun_safe}
use Rattle.redomail.proofs.laws.tasks_are_safe.Goals as goal

pub returns : goal.returns
returns c = begun_safe
