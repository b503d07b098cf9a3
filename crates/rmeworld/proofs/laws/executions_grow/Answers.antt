use Rattle.rmeworld.proofs.ExecutionGrows.{execution_more, last_more, deeds_more}
use Rattle.rmeworld.proofs.laws.executions_grow.Goals as goal

pub returns-clause-execution : goal.returns-clause-execution
returns-clause-execution c = execution_more

pub returns-clause-deeds : goal.returns-clause-deeds
returns-clause-deeds c = deeds_more

pub returns-clause-global_state : goal.returns-clause-global_state
returns-clause-global_state c = last_more
