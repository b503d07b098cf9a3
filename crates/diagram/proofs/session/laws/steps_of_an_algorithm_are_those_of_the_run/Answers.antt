use Rattle.std.proofs.Common.{refl}
use Rattle.diagram.proofs.AlgorithmSessions.{left_of_run, text_of_run}
use Rattle.diagram.proofs.session.laws.steps_of_an_algorithm_are_those_of_the_run.Goals as goal

pub returns-clause-steps : goal.returns-clause-steps
returns-clause-steps c = λ head m lines accepted. text_of_run head 2 m m.world.algorithm lines refl accepted

pub returns-clause-world : goal.returns-clause-world
returns-clause-world c = λ m lines accepted. left_of_run 2 m lines accepted
