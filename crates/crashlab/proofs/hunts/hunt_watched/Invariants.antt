use Rattle.crashlab.proofs.hunts.Drawn.{AreDrawn}
use Rattle.crashlab.proofs.hunts.hunt_watched.Given as goal

abbrev pub invariant-loop-round : goal.invariant-loop-round
invariant-loop-round g l = AreDrawn l.fn.variant l.fn.asked 0 l.fn.rounds l.round l.generator
