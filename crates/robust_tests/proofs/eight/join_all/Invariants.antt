use Rattle.std.proofs.Common.{◌≡◌, ◌++◌, map}
use Rattle.std.specs.Vec.Iter.{into_iter_items}
use Rattle.robust.specs.MemberLaws.{seat_of, seats_of}
use Rattle.robust_tests.proofs.eight.join_all.Given as goal

abbrev pub invariant-loop-thread : goal.invariant-loop-thread
invariant-loop-thread g l = record { seats : seats_of l.members.items ++ map (λ h. seat_of h.promise.0.value) (into_iter_items l.thread-iterator) ≡ map (λ h. seat_of h.promise.0.value) l.fn.threads.items }
