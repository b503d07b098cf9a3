use Rattle.schedule.proofs.WorldRuns.{new_is_execution, image_is_execution}
use Rattle.schedule.proofs.replays.laws.runs_are_executions.Goals as goal

pub returns-clause-new : goal.returns-clause-new
returns-clause-new c = new_is_execution

pub returns-clause-later : goal.returns-clause-later
returns-clause-later c = image_is_execution
