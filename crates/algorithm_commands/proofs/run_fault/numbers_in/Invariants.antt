use Rattle.std.proofs.Common.{◌≡◌, map, take}
use Rattle.algorithms.specs.declared.line.AlgorithmLine.{AlgorithmLine}
use Rattle.algorithm_commands.proofs.run_fault.numbers_in.Given as goal

abbrev pub invariant-loop-line : goal.invariant-loop-line
invariant-loop-line l = l.numbers.items ≡ map (λ (line : AlgorithmLine). line.number) (take l.line-index l.lines)
