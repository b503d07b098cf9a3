use Rattle.std.proofs.Common.{◌≡◌, ◌++◌, drop, replicate}
use Rattle.algorithms.specs.Worlds.{resting}
use Rattle.algorithms.proofs.first_rows.rest_all.Given as goal

abbrev pub invariant-loop-process : goal.invariant-loop-process
invariant-loop-process l = l.processes ≡ replicate l.process resting ++ drop l.process l.initial.processes
