use Rattle.std.proofs.Common.{◌≡◌, ◌≤◌, ◌-◌}
use Rattle.crashlab.specs.hunts.Hunted.{found_from}
use Rattle.crashlab.proofs.hunts.parallel_hunts.hunt_in_parallel_watched.Given as goal

abbrev pub invariant-loop-first : goal.invariant-loop-first
invariant-loop-first g l = record {
  rest : found_from l.variant l.asked 0 l.rounds ≡ found_from l.variant l.asked l.first (l.rounds - l.first);
  within : l.first ≤ l.rounds;
}

abbrev pub decreases-loop-first : goal.decreases-loop-first
decreases-loop-first g l = l.rounds - l.first
