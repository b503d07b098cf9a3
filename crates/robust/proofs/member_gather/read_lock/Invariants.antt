use Rattle.std.proofs.Common.{◌≡◌, ◌≤◌, map, vec_capacity}
use Rattle.robust.proofs.Common.{Stays, count_from, end_of}
use Rattle.robust.proofs.member_gather.read_lock.Given as goal

abbrev pub invariant-loop-p : goal.invariant-loop-p
invariant-loop-p l = record {
  table : l.seat.table_id ≡ l.fn.seat.table_id;
  stays : Stays l.setup l.fn.seat.me.0 l.seat.me.0;
  read : l.lock.items ≡ map (end_of l.setup l.fn.seat.me.0.view.seen).words (count_from 0 l.p);
  room : l.setup.layout.procs ≤ vec_capacity l.lock;
}
