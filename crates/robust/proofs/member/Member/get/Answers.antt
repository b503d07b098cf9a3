use Rattle.std.proofs.Common.{rules, ◌≡◌, [], ◌∷◌, ap, ◌∙◌, subst}
use Rattle.robust.proofs.Common.{seat_of, Answer, Mail, last_put, value_or, LastIsOwn, Served, Seated, began}
use Rattle.table_runs.proofs.OneStep.{got}
use Rattle.redomail.specs.declared.reply.Reply.TheVariants.{Word}
use Rattle.rmeworld.specs.declared.call.Call.TheVariants.{Get}
use Rattle.table_runs.proofs.Board.{last_is_own_after}
use Rattle.robust.proofs.member.Member.get.Goals as goal

pub returns-clause-last : goal.returns-clause-last
returns-clause-last g c =
    let x = c.self.inside.call_driver in
    let i = c.args.i in
    let r = c.in_ok-value.ensures.answered in
    let is : c.in_ok-value.field-0 ≡ Mail (Word c.in-Mail-Word.value) = search rules in
    subst (λ (u : Seated). c.in-Mail-Word.value ≡ value_or (last_put u.seat_view.setup i c.call.new.self.seat_view.seen) 0) c.self.view_is
    (got x c.call.new.self i c.in-Mail-Word.value r.0 c.self.invariant c.in_ok-value.ensures.accepted (subst (λ (a : Answer). Served (began x (Get i)) (Get i) (a ∷ []) 0 c.call.new.self r.0) is r.1))

pub returns-clause-own : goal.returns-clause-own
returns-clause-own g c =
    let r = c.in_ok-value.ensures.answered in
    subst (λ (u : Seated). LastIsOwn u.seat_view.setup u.seat_view.by c.args.i c.call.new.self.seat_view.seen) c.self.view_is
    (last_is_own_after c.self.inside.call_driver c.call.new.self (Get c.args.i) _ r.0 c.args.i c.by-by.ensures.seat_view r.1)

pub returns-clause-accepted : goal.returns-clause-accepted
returns-clause-accepted g c = rw (← c.self.view_is) c.in_ok-value.ensures.accepted

pub returns-clause-seat : goal.returns-clause-seat
returns-clause-seat g c = c.call.ensures.seat ∙ ap seat_of c.self.view_is

pub returns-clause-few : goal.returns-clause-few
returns-clause-few g c = rw (← c.self.view_is) c.call.ensures.few

pub returns-in_err-value-clause-seat : goal.returns-in_err-value-clause-seat
returns-in_err-value-clause-seat g c = c.call.ensures.seat ∙ ap seat_of c.self.view_is

pub returns-in_err-value-clause-few : goal.returns-in_err-value-clause-few
returns-in_err-value-clause-few g c = rw (← c.self.view_is) c.call.ensures.few
