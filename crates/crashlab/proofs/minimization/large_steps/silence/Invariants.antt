use Rattle.std.proofs.Common.{◌≡◌}
use Rattle.crashlab.proofs.minimization.large_steps.silence.Given as goal

abbrev pub invariant-loop-process : goal.invariant-loop-process
invariant-loop-process g l = g.O.Oracle.criterion_of l.oracle ≡ g.O.Oracle.criterion_of l.initial.oracle
