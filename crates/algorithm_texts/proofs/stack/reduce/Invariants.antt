use Rattle.std.proofs.Common.{◌≡◌, length}
use Rattle.algorithm_texts.specs.Parts.{part_of}
use Rattle.algorithm_texts.specs.Stacks.{stack_reduction}
use Rattle.algorithm_texts.specs.Operands.{stack_of}
use Rattle.algorithm_texts.proofs.stack.reduce.Given as goal

-- what is left to join is joined to the same
abbrev pub invariant-loop-last : goal.invariant-loop-last
invariant-loop-last l = stack_reduction l.least (stack_of l.stack) (part_of l.part) ≡ stack_reduction l.least (stack_of l.initial.stack) (part_of l.initial.part)

abbrev pub decreases-loop-last : goal.decreases-loop-last
decreases-loop-last l = length (stack_of l.stack)
