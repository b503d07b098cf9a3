use Rattle.crashlab.proofs.hunts.Drawn.{AreDrawn}
use Rattle.crashlab.proofs.hunts.hunt_part.Given as goal

abbrev pub invariant-loop : goal.invariant-loop
invariant-loop l = AreDrawn l.fn.variant l.fn.asked l.fn.first l.fn.rounds l.counter l.generator
