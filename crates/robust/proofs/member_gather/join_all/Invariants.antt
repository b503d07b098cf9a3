use Rattle.std.proofs.Common.{◌≡◌, List, ◌++◌, length, vec_len}
use Rattle.robust.proofs.Common.{arc_value, Knows, Seated, word_count}
use Rattle.robust.proofs.member_gather.join_all.Given as goal

abbrev pub invariant-loop-other : goal.invariant-loop-other
invariant-loop-other l =
    (l.seat.table_id ≡ (arc_value l.board).shared.table_id) × (l.seat.table_id ≡ l.fn.first.seat_view.table) × (l.seat.table_id.words ≡ word_count l.setup)
    × ((taken : List Seated) × (l.fn.others.items ≡ l.others.items ++ taken) × Knows l.fn.first taken (length taken) l.seat.me.0)

abbrev pub decreases-loop-other : goal.decreases-loop-other
decreases-loop-other l = vec_len l.others
