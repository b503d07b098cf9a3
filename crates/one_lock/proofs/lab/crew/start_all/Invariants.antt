use Rattle.std.proofs.Common.{◌≡◌, ◌++◌, map, All}
use Rattle.one_lock.proofs.LabCommon.{into_iter_items, into_iter_len, place_of, CanSend}
use Rattle.one_lock.proofs.lab.crew.start_all.Given as goal

abbrev pub invariant-loop-member : goal.invariant-loop-member
invariant-loop-member g l = record {
  places : map (λ h. place_of h.promise.0.value) l.threads.items ++ map place_of (into_iter_items l.member-iterator) ≡ map place_of l.fn.members.items;
  gates : into_iter_len l.gates ≡ into_iter_len l.member-iterator;
  spec : All (λ h. h.promise.1 ≡ l.fn.spec) l.threads.items;
  ready : All (CanSend l.fn.spec.width) (into_iter_items l.member-iterator);
}
