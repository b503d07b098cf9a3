use Rattle.std.proofs.Common.{◌≡◌, true, ◌||◌, ◌==◌, Some, sym, ◌∙◌}
use Rattle.rmecore.proofs.Common.{first, above, is_before}
use Rattle.rmecore.proofs.MachineSteps.{wait_goes}
use Rattle.rmecore.proofs.process.LockProcess.after_wait.Goals as goal

pub returns-in-Some-clause-place : goal.returns-in-Some-clause-place
returns-in-Some-clause-place c =
    let is : first (above c.args.self.now.procs c.args.self.now.index c.args.next) ≡ Some c.in-Some.j = rw (← c.self.view_is) (sym c.first_other.ensures.first ∙ c.in-Some.is) in
    let passes : ((c.args.value == 0) || is_before c.args.number c.args.self.now.index c.args.value c.in-Some.j) ≡ true = rw (← c.self.view_is) (sym c.passes.ensures ∙ c.if-passes.true) in
    sym (wait_goes c.args.self.now c.args.number c.args.next c.in-Some.j c.args.value c.args.looked is c.if-looked.true passes)
