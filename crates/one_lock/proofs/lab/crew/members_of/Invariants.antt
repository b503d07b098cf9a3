use Rattle.std.proofs.Common.{◌≡◌, ◌++◌, map}
use Rattle.one_lock.proofs.LabCommon.{into_iter_items, place_of}
use Rattle.one_lock.proofs.lab.crew.members_of.Given as goal

abbrev pub invariant-loop-done : goal.invariant-loop-done
invariant-loop-done g l =
    record { places : map place_of l.members.items ++ map (λ d. place_of d.member) (into_iter_items l.done-iterator) ≡ map (λ d. place_of d.member) l.fn.ended.items }
