use Rattle.std.proofs.Common.{◌≡◌, drop}
use Rattle.algorithm_texts.specs.Stacks.{run, reading, Begins}
use Rattle.algorithm_texts.specs.LineFaults.{run_fault}
use Rattle.algorithm_texts.specs.Operands.{stack_of, next_of, scope_of, names_of}
use Rattle.algorithm_texts.proofs.values.read_tokens.Given as goal

-- the tokens that are left lead where all do
abbrev pub invariant-loop-token : goal.invariant-loop-token
invariant-loop-token l = record {
  leads : run (scope_of l.fn.algorithm) (drop l.token-index l.tokens) (reading (names_of l.algorithm) (stack_of l.stack) (next_of l.place))
      ≡ run (scope_of l.fn.algorithm) l.tokens (reading (names_of l.fn.algorithm) (stack_of l.fn.stack) Begins);
  faults : run_fault (scope_of l.fn.algorithm) (drop l.token-index l.tokens) (reading (names_of l.algorithm) (stack_of l.stack) (next_of l.place))
      ≡ run_fault (scope_of l.fn.algorithm) l.tokens (reading (names_of l.fn.algorithm) (stack_of l.fn.stack) Begins);
  kept : l.algorithm ≡ record l.fn.algorithm { names = l.algorithm.names };
}
