use Rattle.std.proofs.Common.{Some, ap, ◌∙◌}
use Rattle.robust.proofs.CallCommon.{Seated, on_err, lock_asked, lock_cut, lock_idle, lock_counts}
use Rattle.robust.proofs.call.call_driver.CallDriver.wait.Goals as goal

pub returns-in_err-ask-clause-cut : goal.returns-in_err-ask-clause-cut
returns-in_err-ask-clause-cut g c =
    let f = c.in_err-ask.ensures in
    let ends = c.in_ok-answer.ensures.ends in
    on_err _ c.from_residual-in_err-ask.result (
    lock_cut c.args.self.now c.take_all.new.self c.ask.new.self ends.0 (Some c.in_ok-answer.answer) (g.C.CrashPlan.askings c.args.plan.now) (g.C.CrashPlan.askings c.take_all.new.plan) (g.C.CrashPlan.askings c.ask.new.plan) ends.1 f.falls.0 f.falls.1
    )

pub returns-clause-ends : goal.returns-clause-ends
returns-clause-ends g c =
    let w = c.in_ok-ask.ensures in
    let ends = c.in_ok-answer.ensures.ends in (
      ends.0,
      lock_asked c.args.self.now c.take_all.new.self c.ask.new.self ends.0 (Some c.in_ok-answer.answer) (g.C.CrashPlan.askings c.args.plan.now) (g.C.CrashPlan.askings c.take_all.new.plan) (g.C.CrashPlan.askings c.ask.new.plan) ends.1 w.goes_on.0 w.goes_on.1,
    )

pub returns-clause-idle : goal.returns-clause-idle
returns-clause-idle g c =
    let ends = c.in_ok-answer.ensures.ends in
    ap (λ (u : Seated). u.seat_view.start) c.in_ok-ask.ensures.goes_on.0
    ∙ lock_idle c.args.self.now c.take_all.new.self ends.0 (Some c.in_ok-answer.answer) (g.C.CrashPlan.askings c.args.plan.now) (g.C.CrashPlan.askings c.take_all.new.plan) ends.1

pub returns-clause-counts : goal.returns-clause-counts
returns-clause-counts g c =
    let ends = returns-clause-ends g c in
    lock_counts c.args.self.now c.ask.new.self ends.0 _ _ (Some c.in_ok-answer.answer) ends.1
