use Rattle.diagram.proofs.LinesReported.{reported_of_run, world_of_run}
use Rattle.diagram.proofs.session.laws.steps_are_those_of_the_run.Goals as goal

pub returns-clause-steps : goal.returns-clause-steps
returns-clause-steps c = λ head lock lines accepted. reported_of_run head 2 lock lines accepted

pub returns-clause-world : goal.returns-clause-world
returns-clause-world c = λ lock lines accepted. world_of_run 2 lock lines accepted
