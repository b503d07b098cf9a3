use Rattle.std.proofs.Common.{List}
use Rattle.crashlab.specs.declared.hunts.moves.DrawnMove.{DrawnMove}
use Rattle.crashlab.proofs.hunts.Drawn.{IsDrawn, drawn_round}
use Rattle.crashlab.proofs.hunts.scout.Given as goal

abbrev pub invariant-loop : goal.invariant-loop
invariant-loop l = record {
  moves : List DrawnMove;
  drawn : IsDrawn (drawn_round l.fn.variant l.fn.asked l.initial.generator) l.counter moves l.world l.judge l.observer l.generator;
}
