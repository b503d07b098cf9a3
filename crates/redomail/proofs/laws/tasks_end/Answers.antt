use Rattle.redomail.proofs.Endings.{tasks_end}
use Rattle.redomail.proofs.laws.tasks_end.Goals as goal

pub returns : goal.returns
returns c = tasks_end
