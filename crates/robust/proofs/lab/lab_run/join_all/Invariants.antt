use Rattle.std.proofs.Common.{◌≡◌, ◌++◌, map, All}
use Rattle.robust.proofs.Common.{into_iter_items, Spec, HasWorked, seat_done, seat_promised}
use Rattle.robust.proofs.lab.lab_run.join_all.Given as goal

abbrev pub invariant-loop-thread : goal.invariant-loop-thread
invariant-loop-thread g l = record {
  seats : map seat_done l.all.items ++ map (λ h. seat_promised h.promise) (into_iter_items l.thread-iterator) ≡ map (λ h. seat_promised h.promise) l.fn.threads.items;
  worked : (spec : Spec) → All (λ h. h.promise.1 ≡ spec) l.fn.threads.items → All (HasWorked spec) l.all.items × All (λ h. h.promise.1 ≡ spec) (into_iter_items l.thread-iterator);
}
