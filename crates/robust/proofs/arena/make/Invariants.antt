use Rattle.std.proofs.Common.{◌≡◌, [], map}
use Rattle.robust.proofs.Common.{arc_value, rest_known, count_from, word_count, fresh_member}
use Rattle.robust.proofs.arena.make.Given as goal

abbrev pub invariant-loop-p : goal.invariant-loop-p
invariant-loop-p l = record {
  table : l.seat.table_id ≡ (arc_value l.board).shared.table_id;
  words : l.seat.table_id.words ≡ word_count l.setup;
  seat : l.seat.me ≡ (rest_known l.setup l.p, []);
  made : l.members.items ≡ map (fresh_member l.seat.table_id l.setup) (count_from 0 l.p);
}
