use Rattle.std.proofs.Common.{◌≡◌, ◌++◌}
use Rattle.algorithms.specs.FirstWords.{values_to}
use Rattle.algorithm_texts.specs.Drafts.{element_letters}
use Rattle.algorithm_texts.specs.Operands.{names_of}
use Rattle.algorithm_texts.proofs.rows.push_names.Given as goal

-- the names of the row so far
abbrev pub invariant-loop-index : goal.invariant-loop-index
invariant-loop-index l = record {
  names : names_of l.algorithm ≡ names_of l.fn.algorithm ++ values_to (element_letters l.name) l.index;
  kept : l.algorithm ≡ record l.fn.algorithm { names = l.algorithm.names };
}
