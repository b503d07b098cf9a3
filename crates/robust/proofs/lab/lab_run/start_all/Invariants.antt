use Rattle.std.proofs.Common.{◌≡◌, ◌++◌, map, All}
use Rattle.robust.proofs.Common.{into_iter_items, into_iter_len, IsNew, sizes_of, seat_promised, seats_of}
use Rattle.robust.proofs.lab.lab_run.start_all.Given as goal

abbrev pub invariant-loop-member : goal.invariant-loop-member
invariant-loop-member g l = record {
  seats : map (λ h. seat_promised h.promise) l.threads.items ++ seats_of (into_iter_items l.member-iterator) ≡ seats_of l.fn.members.items;
  gates : into_iter_len l.gates ≡ into_iter_len l.member-iterator;
  new : All (IsNew (sizes_of l.fn.spec)) (into_iter_items l.member-iterator);
  spec : All (λ h. h.promise.1 ≡ l.fn.spec) l.threads.items;
}
