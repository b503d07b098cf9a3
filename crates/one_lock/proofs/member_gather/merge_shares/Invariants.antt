use Rattle.std.proofs.Common.{◌≡◌, ◌+◌, vec_len}
use Rattle.one_lock.proofs.Common.{steps_taken}
use Rattle.std.specs.Vec.Iter.{into_iter_items, into_iter_len}
use Rattle.one_lock.proofs.member_gather.merge_shares.Given as goal

abbrev pub invariant-loop-member : goal.invariant-loop-member
invariant-loop-member g l =
    (l.all.parts + into_iter_len l.member-iterator ≡ vec_len l.fn.members)
    × (l.all.amount + steps_taken (into_iter_items l.member-iterator) ≡ steps_taken l.fn.members.items)
