use Rattle.std.proofs.Common.{◌≡◌, ◌++◌, map}
use Rattle.robust.proofs.Common.{into_iter_items}
use Rattle.robust.proofs.lab.lab_run.members_of.Given as goal

abbrev pub invariant-loop-done : goal.invariant-loop-done
invariant-loop-done l = record { members : l.members.items ++ map (λ done. done.member) (into_iter_items l.done-iterator) ≡ map (λ done. done.member) l.fn.ended.items }
