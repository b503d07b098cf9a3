use Rattle.std.proofs.Common.{sym, arith}
use Rattle.redomail.proofs.Scripts.{store-on, store-end}
use Rattle.redomail.proofs.stage.JobStage.go_on.Goals as goal

pub returns-then-step-layout-clause-left : goal.returns-then-step-layout-clause-left
returns-then-step-layout-clause-left c =
    let fits = rw c.in-Write.is at c.requires.fits in
    rw c.in-Write.is (sym (store-on _ _ _ _ _ c.in-Write.step (omega arith)))

pub returns-else-step-layout-clause-left : goal.returns-else-step-layout-clause-left
returns-else-step-layout-clause-left c =
    let fits = rw c.in-Write.is at c.requires.fits in
    rw c.in-Write.is (sym (store-end _ _ _ _ _ c.in-Write.step (omega arith)))
