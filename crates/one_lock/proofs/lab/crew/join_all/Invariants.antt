use Rattle.std.proofs.Common.{◌≡◌, ◌++◌, map, All}
use Rattle.one_lock.proofs.LabCommon.{into_iter_items, Spec, MayEnd, place_of}
use Rattle.one_lock.proofs.lab.crew.join_all.Given as goal

abbrev pub invariant-loop-thread : goal.invariant-loop-thread
invariant-loop-thread g l = record {
  places : map (λ d. place_of d.member) l.all.items ++ map (λ h. place_of h.promise.0.value) (into_iter_items l.thread-iterator) ≡ map (λ h. place_of h.promise.0.value) l.fn.threads.items;
  ends : (s : Spec) → All (λ h. h.promise.1 ≡ s) l.fn.threads.items → All (λ h. h.promise.1 ≡ s) (into_iter_items l.thread-iterator) × All (λ d. MayEnd g.S.Sizes.named s d.member.process d.ending) l.all.items;
}
