use Rattle.std.proofs.Common.{◌≡◌, drop}
use Rattle.diagram.specs.AlgorithmStandings.{has_value}
use Rattle.diagram.proofs.session.algorithm_positions.has_value.Given as goal

abbrev pub invariant-loop-word : goal.invariant-loop-word
invariant-loop-word l = has_value (drop l.word-index l.words) ≡ has_value l.words
