use Rattle.std.proofs.Common.{◌≡◌, is_some}
use Rattle.algorithms.specs.FirstWords.{all_below, first_value}
use Rattle.algorithms.proofs.first_words.has_values.Given as goal

abbrev pub invariant-loop-index : goal.invariant-loop-index
invariant-loop-index l = l.fit ≡ all_below (λ i. is_some (first_value l.procs l.limit l.declaration l.value i)) l.index
