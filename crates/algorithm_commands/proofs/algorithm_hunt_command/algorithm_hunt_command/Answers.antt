use Rattle.std.proofs.Common.{option_copied}
use Rattle.algorithms.specs.declared.first_values.InitializedAlgorithm.{InitializedAlgorithm}
use Rattle.algorithm_commands.specs.AlgorithmHunts.{HuntsAlgorithm}
use Rattle.algorithm_commands.proofs.AlgorithmTexts.{algorithm_read}
use Rattle.algorithm_commands.proofs.algorithm_hunt_command.algorithm_hunt_command.Goals as goal

pub returns-clause-ends : goal.returns-clause-ends
returns-clause-ends g c =
    algorithm_read (option_copied c.args.text) (λ (a : InitializedAlgorithm). HuntsAlgorithm a c.args.args.now (g.W.Sink.tape c.args.w.now) (g.W.Sink.tape c.tell_hunted.new.w) c.tell_hunted.result)
    _ _ c.tell_hunted.result c.in_ok-algorithm.algorithm c.in_ok-algorithm.ensures.spells c.in_ok-algorithm.ensures.ends c.in_ok-algorithm.ensures.leads c.tell_hunted.ensures.ends
