use Rattle.std.proofs.Common.{◌≡◌, None, sym, ap, ◌∙◌, subst}
use Rattle.robust.proofs.CallCommon.{Setup, Seated, began, refusal_now, process_state_now, Begun}
use Rattle.robust.proofs.SettingOut.{ready_here}
use Rattle.robust.proofs.call.call_driver.CallDriver.set_out.Goals as goal

pub returns-in-Ok-clause-out : goal.returns-in-Ok-clause-out
returns-in-Ok-clause-out c =
    let same = ready_here c.args.self.now c.args.call.now c.requires.comes c.in-Ok.ensures.accepted.0 in
    let started = c.in-Ok.ensures.accepted.1 in
    let begun = subst (λ (s : Setup). Begun c.args.call.now s.layout.procs (process_state_now c.begin.new.self.seat_view)) (ap (λ (x : Seated). x.seat_view.setup) (sym started)) c.in-Ok.ensures.begun in
    (started ∙ ap (λ (x : Seated). began x c.args.call.now) (sym same), begun, c.in-Ok.ensures.seat_view)

pub returns-in-Ok-clause-accepted : goal.returns-in-Ok-clause-accepted
returns-in-Ok-clause-accepted c =
    let may = c.in-Ok.ensures.accepted.0 in
    subst (λ (x : Seated). refusal_now x c.args.call.now ≡ None) (sym (ready_here c.args.self.now c.args.call.now c.requires.comes may)) may
