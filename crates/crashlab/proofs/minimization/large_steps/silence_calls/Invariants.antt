use Rattle.std.proofs.Common.{◌≡◌}
use Rattle.crashlab.proofs.minimization.large_steps.silence_calls.Given as goal

abbrev pub invariant-loop-at : goal.invariant-loop-at
invariant-loop-at g l = g.O.Oracle.criterion_of l.oracle ≡ g.O.Oracle.criterion_of l.initial.oracle
