use Rattle.std.proofs.Common.{◌≡◌, ◌++◌, drop, replicate}
use Rattle.algorithms.specs.Extents.{or_zero}
use Rattle.algorithms.specs.FirstWords.{values_to, first_value}
use Rattle.algorithms.proofs.first_words.row_of_values.Given as goal

abbrev pub invariant-loop-index : goal.invariant-loop-index
invariant-loop-index l = l.row ≡ values_to (λ i. or_zero (first_value l.procs l.limit l.declaration l.value i)) l.index ++ drop l.index (replicate 64 0)
