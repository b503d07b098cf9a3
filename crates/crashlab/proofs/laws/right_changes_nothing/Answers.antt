use Rattle.crashlab.proofs.variants.Choices.{right_process_states, right_deeds}
use Rattle.crashlab.proofs.laws.right_changes_nothing.Goals as goal

pub returns-clause-process_states : goal.returns-clause-process_states
returns-clause-process_states c l limit process_state h = right_process_states l limit process_state h

pub returns-clause-deeds : goal.returns-clause-deeds
returns-clause-deeds c process_state h = right_deeds process_state h
