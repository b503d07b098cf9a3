use Rattle.rmecore.proofs.Turns.{turn, not_data}
use Rattle.rmecore.proofs.laws.steps_are_turns.Goals as goal

pub returns-clause-turn : goal.returns-clause-turn
returns-clause-turn c = turn

pub returns-clause-no_data : goal.returns-clause-no_data
returns-clause-no_data c = not_data
