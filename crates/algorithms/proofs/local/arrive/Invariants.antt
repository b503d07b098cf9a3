use Rattle.std.proofs.Common.{◌≡◌}
use Rattle.algorithms.specs.Arrivals.{arrives}
use Rattle.algorithms.proofs.local.arrive.Given as goal

-- from here with the rounds that are left it comes to where it comes from the first line
abbrev pub invariant-loop-rounds : goal.invariant-loop-rounds
invariant-loop-rounds l = arrives l.lines l.constants l.rounds l.state ≡ arrives l.lines l.constants l.initial.rounds l.initial.state

abbrev pub decreases-loop-rounds : goal.decreases-loop-rounds
decreases-loop-rounds l = l.rounds
