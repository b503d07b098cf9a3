use Rattle.std.proofs.Common.{◌≡◌}
use Rattle.algorithms.specs.LocalRuns.{with_first_names}
use Rattle.algorithms.proofs.local.set_row.Given as goal

abbrev pub invariant-loop-index : goal.invariant-loop-index
invariant-loop-index l = l.store ≡ with_first_names l.row l.size l.value l.index l.initial.store
