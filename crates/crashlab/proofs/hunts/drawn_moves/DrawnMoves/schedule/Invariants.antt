use Rattle.std.proofs.Common.{◌≡◌, take}
use Rattle.crashlab.specs.hunts.Found.{drawn_moves_of}
use Rattle.crashlab.proofs.hunts.drawn_moves.DrawnMoves.schedule.Given as goal

abbrev pub invariant-loop-made : goal.invariant-loop-made
invariant-loop-made l = record {
  so_far : l.schedule ≡ drawn_moves_of (take l.made-index l.made-items);
  whole : l.fn.self ≡ l.made-items;
}
