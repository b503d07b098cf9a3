use Rattle.std.proofs.Common.{◌≡◌, ◌++◌, map}
use Rattle.std.specs.Vec.Iter.{into_iter_items}
use Rattle.robust.specs.MemberLaws.{seat_of, seats_of}
use Rattle.robust_tests.proofs.eight.start_all.Given as goal

abbrev pub invariant-loop-member : goal.invariant-loop-member
invariant-loop-member g l = record { seats : map (λ h. seat_of h.promise.0.value) l.threads.items ++ seats_of (into_iter_items l.member-iterator) ≡ seats_of l.fn.members.items }
