use Rattle.std.proofs.Common.{◌≡◌}
use Rattle.algorithms.specs.Arrivals.{round_outcome}
use Rattle.algorithms.proofs.local.end_round.Given as goal

-- from here with the lines that are left a round ends as from the first line
abbrev pub invariant-loop-left : goal.invariant-loop-left
invariant-loop-left l = round_outcome l.lines l.constants l.left l.state ≡ round_outcome l.lines l.constants l.initial.left l.initial.state

abbrev pub decreases-loop-left : goal.decreases-loop-left
decreases-loop-left l = l.left
