use Rattle.std.proofs.Common.{◌≡◌, take, All}
use Rattle.robust.proofs.Common.{AllSent}
use Rattle.robust.proofs.lab.lab_run.first_fault.Given as goal

abbrev pub invariant-loop-done : goal.invariant-loop-done
invariant-loop-done l = All (λ done. done.ending ≡ AllSent) (take l.done-index l.ended)
