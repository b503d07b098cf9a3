use Rattle.rmeworld.proofs.ExecutionGrows.{process_states_are_own}
use Rattle.rmeworld.proofs.laws.process_states_are_own.Goals as goal

pub returns : goal.returns
returns c = process_states_are_own
