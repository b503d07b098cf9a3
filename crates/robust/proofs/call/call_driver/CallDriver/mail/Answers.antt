use Rattle.std.proofs.Common.{Some, Ok, ap}
use Rattle.robust.proofs.CallCommon.{Lock, Seated, free_to_start, began, WholeEnds, WholeFails, ok_any, cut_out, lock_idle, ok_some, whole_fails, cut_fails, whole_replied, goes_idle, err_some}
use Rattle.table_runs.proofs.WholeCalls.{task_fits}
use Rattle.robust.proofs.call.call_driver.CallDriver.mail.Goals as goal

pub returns-in-Ok-clause-replied : goal.returns-in-Ok-clause-replied
returns-in-Ok-clause-replied g c =
    let ends = c.in-Ok.ensures.ends in
    ok_some (λ k it. WholeEnds (began (free_to_start c.args.self.now) Lock) k c.args.task.now (Ok it) c.finish.new.self (g.C.CrashPlan.askings c.args.plan.now) (g.C.CrashPlan.askings c.finish.new.plan)) c.finish.result ends.0
    (whole_replied c.args.self.now c.set_out_lock.new.self c.finish.new.self ends.0 c.args.task.now (g.C.CrashPlan.askings c.args.plan.now) (g.C.CrashPlan.askings c.finish.new.plan)
    c.in_ok-set_out_lock.ensures.out.0 c.finish.result (c.finish.ensures.goes c.set_out_lock.new.self ends.0 (g.C.CrashPlan.askings c.args.plan.now) ends.1))

pub returns-in-Ok-clause-fails : goal.returns-in-Ok-clause-fails
returns-in-Ok-clause-fails g c =
    let ends = c.in-Ok.ensures.ends in
    err_some (λ k e. WholeFails c.args.self.now k c.args.task.now c.finish.new.self (g.C.CrashPlan.askings c.args.plan.now) (g.C.CrashPlan.askings c.finish.new.plan) e) c.finish.result ends.0
    (whole_fails c.args.self.now c.set_out_lock.new.self c.finish.new.self ends.0 c.args.task.now (g.C.CrashPlan.askings c.args.plan.now) (g.C.CrashPlan.askings c.finish.new.plan)
    c.in_ok-set_out_lock.ensures.out.0 c.in_ok-set_out_lock.ensures.accepted c.finish.result (c.finish.ensures.goes c.set_out_lock.new.self ends.0 (g.C.CrashPlan.askings c.args.plan.now) ends.1))

pub returns-in-Ok-clause-idle : goal.returns-in-Ok-clause-idle
returns-in-Ok-clause-idle g c =
    let ends = c.in-Ok.ensures.ends in
    goes_idle c.set_out_lock.new.self c.finish.new.self ends.0 c.args.task.now (g.C.CrashPlan.askings c.args.plan.now) (g.C.CrashPlan.askings c.finish.new.plan) c.finish.result
    (c.finish.ensures.goes c.set_out_lock.new.self ends.0 (g.C.CrashPlan.askings c.args.plan.now) ends.1)

pub returns-in-Err-clause-fails : goal.returns-in-Err-clause-fails
returns-in-Err-clause-fails g c = (
  0,
  cut_fails c.args.self.now c.set_out_lock.new.self c.take_all.new.self 0 c.args.task.now (g.C.CrashPlan.askings c.args.plan.now) (g.C.CrashPlan.askings c.take_all.new.plan) c.in_ok-set_out_lock.ensures.out.0
      c.in_ok-set_out_lock.ensures.accepted c.in-Err.fault c.in-Err.ensures.crashed c.in-Err.ensures.cut,
)

pub returns-in-Err-clause-out : goal.returns-in-Err-clause-out
returns-in-Err-clause-out g c = λ alive. cut_out c.set_out_lock.new.self c.take_all.new.self _ _ _ c.in-Err.ensures.cut

pub returns-in-Ok-clause-accepted : goal.returns-in-Ok-clause-accepted
returns-in-Ok-clause-accepted g c = ok_any c.finish.result _ c.in_ok-set_out_lock.ensures.accepted

pub returns-in-Ok-clause-fits : goal.returns-in-Ok-clause-fits
returns-in-Ok-clause-fits g c = c.finish.ensures.fits

pub finish-requires-clause-idle : goal.finish-requires-clause-idle
finish-requires-clause-idle g c =
    let ends = c.in-Ok.ensures.ends in
    lock_idle c.set_out_lock.new.self c.take_all.new.self ends.0 (Some c.in-Ok.answer) _ _ ends.1

pub finish-requires-clause-leaves : goal.finish-requires-clause-leaves
finish-requires-clause-leaves g c = c.in-Ok.ensures.fits

pub finish-requires-clause-task : goal.finish-requires-clause-task
finish-requires-clause-task g c =
    let ends = c.in-Ok.ensures.ends in
    task_fits c.args.self.now c.set_out_lock.new.self c.take_all.new.self ends.0 (Some c.in-Ok.answer) c.args.task.now _ _ c.in_ok-set_out_lock.ensures.out.0 ends.1 c.requires.task

pub take_all-requires-clause-begun : goal.take_all-requires-clause-begun
take_all-requires-clause-begun g c = c.in_ok-set_out_lock.ensures.out.1

pub take_all-requires-clause-seat_view : goal.take_all-requires-clause-seat_view
take_all-requires-clause-seat_view g c = c.in_ok-set_out_lock.ensures.out.2

pub take_all-requires-clause-start : goal.take_all-requires-clause-start
take_all-requires-clause-start g c = ap (λ (u : Seated). u.seat_view.start) c.in_ok-set_out_lock.ensures.out.0

pub returns-in-Err-clause-idle : goal.returns-in-Err-clause-idle
returns-in-Err-clause-idle g c = c.in-Err.ensures.cut.1.idle
