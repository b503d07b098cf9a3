use Rattle.std.proofs.Common.{◌≡◌, ◌≤◌, map, vec_capacity}
use Rattle.robust.proofs.Common.{size, Stays, count_from, end_of}
use Rattle.robust.proofs.member_gather.read_cells.Given as goal

abbrev pub invariant-loop-i : goal.invariant-loop-i
invariant-loop-i l = record {
  table : l.seat.table_id ≡ l.fn.seat.table_id;
  stays : Stays l.setup l.fn.seat.me.0 l.seat.me.0;
  read : l.cells.items ≡ map (end_of l.setup l.fn.seat.me.0.view.seen).cells (count_from 0 l.i);
  room : size l.setup.layout ≤ vec_capacity l.cells;
}
