use Rattle.judge.proofs.AlikeStates.{same-fault, alike-after, kept-alike}
use Rattle.judge.proofs.laws.alike_states_stay_alike.Goals as goal

pub returns-clause-kept : goal.returns-clause-kept
returns-clause-kept c = kept-alike

pub returns-clause-verdict : goal.returns-clause-verdict
returns-clause-verdict c = same-fault

pub returns-clause-after : goal.returns-clause-after
returns-clause-after c = alike-after
