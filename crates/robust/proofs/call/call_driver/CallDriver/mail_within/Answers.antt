use Rattle.std.proofs.Common.{◌≡◌, ◌≢◌, None, sym, ap, subst}
use Rattle.robust.proofs.CallCommon.{Withdraw, refusal_now, Seated, lock_setup, err_any, ok_any, cut_out, busy_out, whole_fails, whole_replied, goes_idle, lock_idle, cut_fails}
use Rattle.table_runs.specs.declared.lock_fault.LockFault.TheVariants.{AlreadyIn}
use Rattle.table_runs.proofs.WholeCalls.{task_fits}
use Rattle.table_runs.proofs.WholeSteps.{few_whole, few_lock}
use Rattle.robust.proofs.call.call_driver.CallDriver.mail_within.Goals as goal

pub returns-in-Err-clause-fails : goal.returns-in-Err-clause-fails
returns-in-Err-clause-fails g c =
    cut_fails c.args.self.now c.set_out_lock.new.self c.take_turns.new.self c.args.turns c.args.task.now (g.C.CrashPlan.askings c.args.plan.now) (g.C.CrashPlan.askings c.take_turns.new.plan) c.in_ok-set_out_lock.ensures.out.0
    c.in_ok-set_out_lock.ensures.accepted c.in-Err.fault c.in-Err.ensures.crashed c.in-Err.ensures.cut

pub returns-in-Ok-clause-fails : goal.returns-in-Ok-clause-fails
returns-in-Ok-clause-fails g c =
    whole_fails c.args.self.now c.set_out_lock.new.self c.finish.new.self c.args.turns c.args.task.now (g.C.CrashPlan.askings c.args.plan.now) (g.C.CrashPlan.askings c.finish.new.plan)
    c.in_ok-set_out_lock.ensures.out.0 c.in_ok-set_out_lock.ensures.accepted c.finish.result (c.finish.ensures.goes c.set_out_lock.new.self c.args.turns (g.C.CrashPlan.askings c.args.plan.now) c.in-Ok.ensures.ends)

pub returns-in-Ok-clause-few : goal.returns-in-Ok-clause-few
returns-in-Ok-clause-few g c =
    ok_any c.finish.result _
    (few_whole c.args.self.now c.set_out_lock.new.self c.take_turns.new.self c.finish.new.self c.args.task.now c.args.turns c.in_ok-set_out_lock.ensures.out.0 (lock_setup c.set_out_lock.new.self c.take_turns.new.self c.args.turns c.in-Ok.answer _ _ c.in-Ok.ensures.ends) c.in-Ok.ensures.few c.finish.ensures.few)

pub returns-in-Ok-clause-few_out : goal.returns-in-Ok-clause-few_out
returns-in-Ok-clause-few_out g c =
    err_any c.finish.result (λ e. e ≢ AlreadyIn) _
    (few_whole c.args.self.now c.set_out_lock.new.self c.take_turns.new.self c.finish.new.self c.args.task.now c.args.turns c.in_ok-set_out_lock.ensures.out.0 (lock_setup c.set_out_lock.new.self c.take_turns.new.self c.args.turns c.in-Ok.answer _ _ c.in-Ok.ensures.ends) c.in-Ok.ensures.few c.finish.ensures.few)

pub returns-in-Err-clause-few_out : goal.returns-in-Err-clause-few_out
returns-in-Err-clause-few_out g c = λ other. few_lock c.args.self.now c.set_out_lock.new.self c.take_turns.new.self c.take_turns.new.self c.args.task.now c.args.turns c.in_ok-set_out_lock.ensures.out.0 c.in-Err.ensures.few

pub returns-in-Err-clause-out : goal.returns-in-Err-clause-out
returns-in-Err-clause-out g c = λ alive. cut_out c.set_out_lock.new.self c.take_turns.new.self _ _ _ c.in-Err.ensures.cut

pub returns-in-Ok-clause-out : goal.returns-in-Ok-clause-out
returns-in-Ok-clause-out g c = λ alive. c.finish.ensures.out (λ none. busy_out c.take_turns.new.self (c.in-Ok.ensures.waits none))

pub returns-in-Ok-clause-waits : goal.returns-in-Ok-clause-waits
returns-in-Ok-clause-waits g c =
    λ late. subst (λ (u : Seated). refusal_now u Withdraw ≡ None) (sym (c.finish.ensures.stays late)) (c.in-Ok.ensures.waiting (c.finish.ensures.patient late))

pub returns-in-Ok-clause-accepted : goal.returns-in-Ok-clause-accepted
returns-in-Ok-clause-accepted g c = ok_any c.finish.result _ c.in_ok-set_out_lock.ensures.accepted

pub returns-in-Ok-clause-fits : goal.returns-in-Ok-clause-fits
returns-in-Ok-clause-fits g c = c.finish.ensures.fits

pub returns-in-Ok-clause-replied : goal.returns-in-Ok-clause-replied
returns-in-Ok-clause-replied g c =
    whole_replied c.args.self.now c.set_out_lock.new.self c.finish.new.self c.args.turns c.args.task.now (g.C.CrashPlan.askings c.args.plan.now) (g.C.CrashPlan.askings c.finish.new.plan)
    c.in_ok-set_out_lock.ensures.out.0 c.finish.result (c.finish.ensures.goes c.set_out_lock.new.self c.args.turns (g.C.CrashPlan.askings c.args.plan.now) c.in-Ok.ensures.ends)

pub returns-in-Ok-clause-idle : goal.returns-in-Ok-clause-idle
returns-in-Ok-clause-idle g c =
    goes_idle c.set_out_lock.new.self c.finish.new.self c.args.turns c.args.task.now (g.C.CrashPlan.askings c.args.plan.now) (g.C.CrashPlan.askings c.finish.new.plan)
    c.finish.result (c.finish.ensures.goes c.set_out_lock.new.self c.args.turns (g.C.CrashPlan.askings c.args.plan.now) c.in-Ok.ensures.ends)

pub finish-requires-clause-idle : goal.finish-requires-clause-idle
finish-requires-clause-idle g c = lock_idle c.set_out_lock.new.self c.take_turns.new.self c.args.turns c.in-Ok.answer _ _ c.in-Ok.ensures.ends

pub finish-requires-clause-leaves : goal.finish-requires-clause-leaves
finish-requires-clause-leaves g c = c.in-Ok.ensures.fits

pub finish-requires-clause-task : goal.finish-requires-clause-task
finish-requires-clause-task g c =
    task_fits c.args.self.now c.set_out_lock.new.self c.take_turns.new.self c.args.turns c.in-Ok.answer c.args.task.now _ _ c.in_ok-set_out_lock.ensures.out.0 c.in-Ok.ensures.ends c.requires.task

pub take_turns-requires-clause-begun : goal.take_turns-requires-clause-begun
take_turns-requires-clause-begun g c = c.in_ok-set_out_lock.ensures.out.1

pub take_turns-requires-clause-seat_view : goal.take_turns-requires-clause-seat_view
take_turns-requires-clause-seat_view g c = c.in_ok-set_out_lock.ensures.out.2

pub take_turns-requires-clause-start : goal.take_turns-requires-clause-start
take_turns-requires-clause-start g c = ap (λ (u : Seated). u.seat_view.start) c.in_ok-set_out_lock.ensures.out.0

pub returns-in-Err-clause-idle : goal.returns-in-Err-clause-idle
returns-in-Err-clause-idle g c = c.in-Err.ensures.cut.1.idle
