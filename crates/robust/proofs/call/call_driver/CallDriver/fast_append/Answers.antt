use Rattle.std.proofs.Common.{◌≡◌, ◌-◌, ◌^◌, ◌≤◌, true, List, length, Some, None, sym, ap, ◌∙◌, subst, arith}
use Rattle.robust.proofs.CallCommon.{Inside, Mail, Append, ProcessState, TakenStep, Ran, NeverCrashes, refusal_now, IsSeatView, process_state_now, SeatView, Seated, after_further_start, append_begun, free_process_state}
use Rattle.robust.proofs.FreeSteps.{seat}
use Rattle.robust.proofs.FastCalls.{fast_answered, may_append, append_starts, is_wide, run_by_back}
use Rattle.robust.proofs.call.call_driver.CallDriver.fast_append.Goals as goal

pub begin-requires-clause-may : goal.begin-requires-clause-may
begin-requires-clause-may g c =
    let at = subst (λ (x : Seated). process_state_now x.seat_view ≡ free_process_state Inside true) (sym c.self.view_is) c.requires.clean in
    let accepted = subst (λ (x : Seated). refusal_now x (Append c.args.seq c.args.value.now) ≡ None) (sym c.self.view_is) c.requires.accepted in
    may_append c.self.inside.port c.args.seq c.args.value.now at accepted

pub append-reply-requires-clause-wide : goal.append-reply-requires-clause-wide
append-reply-requires-clause-wide g c =
    let at = subst (λ (x : Seated). process_state_now x.seat_view ≡ free_process_state Inside true) (sym c.self.view_is) c.requires.clean in
    let accepted = subst (λ (x : Seated). refusal_now x (Append c.args.seq c.args.value.now) ≡ None) (sym c.self.view_is) c.requires.accepted in
    is_wide c.self.inside.port c.args.seq c.args.value.now at accepted ∙ ap (λ (p : SeatView). p.setup.layout.width) (sym c.begin.ensures)

pub append-reply-requires-clause-at : goal.append-reply-requires-clause-at
append-reply-requires-clause-at g c =
    let at = subst (λ (x : Seated). process_state_now x.seat_view ≡ free_process_state Inside true) (sym c.self.view_is) c.requires.clean in
    let accepted = subst (λ (x : Seated). refusal_now x (Append c.args.seq c.args.value.now) ≡ None) (sym c.self.view_is) c.requires.accepted in
    let none = subst (λ (x : Seated). x.seat_view.start ≡ None) (sym c.self.view_is) c.requires.idle in
    subst (λ (p : SeatView). process_state_now p ≡ append_begun p c.args.seq c.args.value.now) (sym c.begin.ensures) (append_starts c.self.inside.port c.args.seq c.args.value.now at accepted none)

pub invariant_of-self : goal.invariant_of-self
invariant_of-self g c =
    let at = subst (λ (x : Seated). process_state_now x.seat_view ≡ free_process_state Inside true) (sym c.self.view_is) c.requires.clean in
    run_by_back c.self.inside.port c.begin.new.self c.append-reply.new.port c.self.inside.process (Append c.args.seq c.args.value.now) c.self.invariant c.begin.ensures c.append-reply.ensures.same at c.append-reply.ensures.at

pub returns-clause-ran : goal.returns-clause-ran
returns-clause-ran g c =
    let w = c.self.inside in
    let k = c.append-reply.result.1 in
    let z = c.append-reply.new.port in
    let small : w.steps ≤ 2 ^ 64 - 1 = omega arith in
    let is = ap (λ (p : SeatView). record { seat_view = p; steps = w.steps }) c.begin.ensures ∙ ap (λ (u : Seated). after_further_start u (Append c.args.seq c.args.value.now)) c.self.view_is in
    subst (λ (u : Seated). (mine : List TakenStep) × Ran u (Some (Mail c.append-reply.result.0)) (seat z c.saturating_add-self-inside.result) mine × NeverCrashes (length mine) (g.C.CrashPlan.askings c.args.plan.now) (g.C.CrashPlan.askings c.count_without_crash.new.plan)) is
    (fast_answered c.begin.new.self z k w.steps c.saturating_add-self-inside.result _ _ small c.saturating_add-self-inside.ensures c.count_without_crash.ensures (Mail c.append-reply.result.0) c.append-reply.ensures.ends)

pub returns-clause-seat_view : goal.returns-clause-seat_view
returns-clause-seat_view g c =
    let w = c.self.inside in
    let is = ap (λ (p : SeatView). record { seat_view = p; steps = w.steps }) c.begin.ensures ∙ ap (λ (u : Seated). after_further_start u (Append c.args.seq c.args.value.now)) c.self.view_is in
    subst (λ (u : Seated). IsSeatView u.seat_view) is c.by-seat_view.ensures.seat_view

pub returns-clause-leaves : goal.returns-clause-leaves
returns-clause-leaves g c = (c.append-reply.ensures.kind, (ap (λ (q : ProcessState). q.lock) c.append-reply.ensures.at, ap (λ (q : ProcessState). q.script_state) c.append-reply.ensures.at))
