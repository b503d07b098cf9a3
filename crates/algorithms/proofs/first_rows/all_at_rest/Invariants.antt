use Rattle.std.proofs.Common.{◌≡◌, replicate}
use Rattle.algorithms.specs.Worlds.{resting}
use Rattle.algorithms.proofs.first_rows.all_at_rest.Given as goal

abbrev pub invariant-loop-process : goal.invariant-loop-process
invariant-loop-process l = l.processes.items ≡ replicate l.process resting
