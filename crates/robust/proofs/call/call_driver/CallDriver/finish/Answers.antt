use Rattle.std.proofs.Common.{◌≡◌, None, Result, Err, refl, sym, ap, ◌∙◌, subst, inl, inr}
use Rattle.robust.proofs.CallCommon.{Lock, Seated, free_to_start, refusal_now, whole_asked, whole_cut}
use Rattle.redomail.specs.declared.reply.Reply.{Reply}
use Rattle.table_runs.specs.declared.lock_fault.LockFault.{LockFault}
use Rattle.table_runs.specs.declared.lock_fault.LockFault.TheVariants.{Crashed, NotYet}
use Rattle.table_runs.specs.Tabled.{CountsAtMost}
use Rattle.table_runs.specs.WholeSteps.{most_inside}
use Rattle.table_runs.proofs.Outside.{fallen_out}
use Rattle.robust.proofs.call.call_driver.CallDriver.finish.Goals as goal

-- a crash is no wait that ran out of turns
crashed_late : (e : LockFault) (r : Result Reply LockFault) → e ≡ Crashed → r ≡ Err e → r ≡ Err NotYet → ⊥
crashed_late e r crashed is late = cc

pub returns-in-Ok-clause-goes : goal.returns-in-Ok-clause-goes
returns-in-Ok-clause-goes g c =
    let w = c.in-Ok.ensures in
    λ x turns a h. inl (whole_asked x c.come.new.self c.ask.new.self a _ _ turns c.args.task.now _ (c.in_ok-reply.ensures.comes x turns a h) w.goes_on.0 w.goes_on.1)

pub returns-in-Err-clause-goes : goal.returns-in-Err-clause-goes
returns-in-Err-clause-goes g c =
    let f = c.in-Err.ensures in
    λ x turns a h. inr (ap (λ e. Err e) f.crashed, whole_cut x c.come.new.self c.ask.new.self a _ _ turns c.args.task.now _ (c.in_ok-reply.ensures.comes x turns a h) f.falls.0 f.falls.1)

pub returns-in-Ok-clause-stays : goal.returns-in-Ok-clause-stays
returns-in-Ok-clause-stays g c = λ late. c.in-Ok.ensures.goes_on.0 ∙ c.in_ok-reply.ensures.stays (c.in_ok-reply.ensures.patient late)

pub returns-in-Ok-clause-fits : goal.returns-in-Ok-clause-fits
returns-in-Ok-clause-fits g c = c.in_ok-reply.ensures.fits

pub returns-in-Ok-clause-patient : goal.returns-in-Ok-clause-patient
returns-in-Ok-clause-patient g c = c.in_ok-reply.ensures.patient

pub returns-in-Ok-clause-out : goal.returns-in-Ok-clause-out
returns-in-Ok-clause-out g c =
    λ waits. subst (λ (u : Seated). refusal_now (free_to_start u) Lock ≡ None) (sym c.in-Ok.ensures.goes_on.0) (c.come.ensures.out waits)

pub returns-in-Ok-clause-few : goal.returns-in-Ok-clause-few
returns-in-Ok-clause-few g c =
    subst (λ (u : Seated). CountsAtMost (most_inside c.args.self.now.seat_view.setup.layout c.args.task.now) c.args.self.now u) (sym c.in-Ok.ensures.goes_on.0) c.come.ensures.few

pub returns-in-Err-clause-fits : goal.returns-in-Err-clause-fits
returns-in-Err-clause-fits g c = tt

pub returns-in-Err-clause-patient : goal.returns-in-Err-clause-patient
returns-in-Err-clause-patient g c = λ late. absurd (crashed_late c.in-Err.fault (Err c.in-Err.fault) c.in-Err.ensures.crashed refl late)

pub returns-in-Err-clause-stays : goal.returns-in-Err-clause-stays
returns-in-Err-clause-stays g c = λ late. absurd (crashed_late c.in-Err.fault (Err c.in-Err.fault) c.in-Err.ensures.crashed refl late)

pub returns-in-Err-clause-out : goal.returns-in-Err-clause-out
returns-in-Err-clause-out g c =
    let fell = c.in-Err.ensures.falls.0 in
    λ waits. fallen_out c.ask.new.self (ap (λ (u : Seated). u.seat_view.fallen) fell) (ap (λ (u : Seated). u.seat_view.start) fell)

pub returns-in-Err-clause-few : goal.returns-in-Err-clause-few
returns-in-Err-clause-few g c =
    subst (λ (u : Seated). CountsAtMost (most_inside c.args.self.now.seat_view.setup.layout c.args.task.now) c.args.self.now u) (sym c.in-Err.ensures.falls.0) c.come.ensures.few
