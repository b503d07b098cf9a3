use Rattle.std.proofs.Common.{◌≡◌, true, None, sym, ap, ◌∙◌, subst}
use Rattle.robust.proofs.CallCommon.{Inside, Leaving, Rest, Unlocked, Unlock, ProcessState, IsSeatView, process_state_now, SeatView, Seated, after_further_start, free_process_state, EndsIn}
use Rattle.robust.proofs.FastCalls.{free_of, may_unlock, unlock_begun, run_by_left}
use Rattle.robust.proofs.call.call_driver.CallDriver.go_out.Goals as goal

pub begin-requires-clause-may : goal.begin-requires-clause-may
begin-requires-clause-may c =
    let at = subst (λ (x : Seated). process_state_now x.seat_view ≡ free_process_state Inside true) (sym c.self.view_is) c.requires.clean in
    may_unlock c.self.inside.port at

pub seam_machine_state-requires : goal.seam_machine_state-requires
seam_machine_state-requires c =
    let at = subst (λ (x : Seated). process_state_now x.seat_view ≡ free_process_state Inside true) (sym c.self.view_is) c.requires.clean in
    free_of c.self.inside.process.script_state (ap (λ (q : ProcessState). q.script_state) (c.self.invariant.process_state ∙ at))

pub invariant_of-self : goal.invariant_of-self
invariant_of-self c =
    let w = c.self.inside in
    let at = subst (λ (x : Seated). process_state_now x.seat_view ≡ free_process_state Inside true) (sym c.self.view_is) c.requires.clean in
    let none = subst (λ (x : Seated). x.seat_view.start ≡ None) (sym c.self.view_is) c.requires.idle in
    let e : process_state_now c.begin.new.self ≡ free_process_state Leaving true = subst (λ (p : SeatView). process_state_now p ≡ free_process_state Leaving true) (sym c.begin.ensures) (unlock_begun w.port at none) in
    run_by_left w.port at c.begin.new.self c.leave.new.port w.process c.seam_machine_state.new.self c.self.invariant c.begin.ensures c.leave.ensures.same (c.leave.ensures.at ∙ (λ i. free_process_state Rest (e i).mended)) c.seam_machine_state.ensures

pub returns-clause-seat_view : goal.returns-clause-seat_view
returns-clause-seat_view c =
    let is = ap (λ (p : SeatView). record { seat_view = p; steps = c.self.inside.steps }) c.begin.ensures ∙ ap (λ (u : Seated). after_further_start u Unlock) c.self.view_is in
    subst (λ (u : Seated). IsSeatView u.seat_view) is c.by-seat_view.ensures.seat_view

pub returns-clause-ends : goal.returns-clause-ends
returns-clause-ends c =
    let is = ap (λ (p : SeatView). record { seat_view = p; steps = c.self.inside.steps }) c.begin.ensures ∙ ap (λ (u : Seated). after_further_start u Unlock) c.self.view_is in
    subst (λ (u : Seated). EndsIn u.seat_view 2 Unlocked c.leave.new.port) is c.leave.ensures.ends
