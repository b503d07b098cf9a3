use Rattle.std.proofs.Common.{rules, ◌≡◌, [], ◌∷◌, Some, ap, ◌∙◌, subst}
use Rattle.robust.proofs.Common.{seat_of, Answer, Mail, TakenStep, last_put, Served, Seated, began}
use Rattle.table_runs.proofs.OneStep.{has_put}
use Rattle.rmeworld.specs.declared.call.Call.TheVariants.{Put}
use Rattle.robust.proofs.member.Member.put.Goals as goal

pub returns-clause-last : goal.returns-clause-last
returns-clause-last g c =
    let x = c.self.inside.call_driver in
    let i = c.args.i in
    let r = c.in_ok-call.ensures.answered in
    let is : c.in_ok-call.field-0 ≡ Mail c.in-Mail.field-0 = search rules in
    subst (λ (u : Seated). (e : TakenStep) × (last_put u.seat_view.setup i c.call.new.self.seat_view.seen ≡ Some e) × (e.by ≡ u.seat_view.by) × (e.value ≡ c.args.value)) c.self.view_is
    (has_put x c.call.new.self i c.args.value c.in-Mail.field-0 r.0 c.self.invariant c.in_ok-call.ensures.accepted (subst (λ (a : Answer). Served (began x (Put i c.args.value)) (Put i c.args.value) (a ∷ []) 0 c.call.new.self r.0) is r.1))

pub returns-clause-accepted : goal.returns-clause-accepted
returns-clause-accepted g c = rw (← c.self.view_is) c.in_ok-call.ensures.accepted

pub returns-clause-seat : goal.returns-clause-seat
returns-clause-seat g c = c.call.ensures.seat ∙ ap seat_of c.self.view_is

pub returns-clause-few : goal.returns-clause-few
returns-clause-few g c = rw (← c.self.view_is) c.call.ensures.few

pub returns-in_err-call-clause-seat : goal.returns-in_err-call-clause-seat
returns-in_err-call-clause-seat g c = c.call.ensures.seat ∙ ap seat_of c.self.view_is

pub returns-in_err-call-clause-few : goal.returns-in_err-call-clause-few
returns-in_err-call-clause-few g c = rw (← c.self.view_is) c.call.ensures.few
