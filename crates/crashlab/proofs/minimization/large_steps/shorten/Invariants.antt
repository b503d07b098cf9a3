use Rattle.std.proofs.Common.{◌≡◌}
use Rattle.crashlab.proofs.minimization.large_steps.shorten.Given as goal

abbrev pub invariant-loop : goal.invariant-loop
invariant-loop g l = g.O.Oracle.criterion_of l.oracle ≡ g.O.Oracle.criterion_of l.initial.oracle
