use Rattle.std.proofs.Common.{◌≢◌, ◌+◌, ◌≤◌, subst}
use Rattle.robust.proofs.Common.{Layout, Lock, most_steps, AlreadyIn, Seated, few_out, err_any, ok_any}
use Rattle.robust.proofs.member.Member.lock_within.Goals as goal

pub returns-in_err-answer-clause-few_out : goal.returns-in_err-answer-clause-few_out
returns-in_err-answer-clause-few_out g c =
    let y = c.wait_turns.new.self in
    err_any c.from_residual-in_err-answer.result (λ e. e ≢ AlreadyIn) _
    (subst (λ (u : Seated). y.steps ≤ most_steps u.seat_view.setup.layout Lock + c.args.turns) c.self.view_is (few_out c.self.inside.call_driver c.set_out_lock.new.self y Lock (λ (l : Layout). most_steps l Lock + c.args.turns) c.in_ok-set_out_lock.ensures.out.0 c.wait_turns.ensures.few))

pub returns-clause-few : goal.returns-clause-few
returns-clause-few g c =
    let y = c.wait_turns.new.self in
    ok_any c.match-branch-3.result _
    (subst (λ (u : Seated). y.steps ≤ most_steps u.seat_view.setup.layout Lock + c.args.turns) c.self.view_is (few_out c.self.inside.call_driver c.set_out_lock.new.self y Lock (λ (l : Layout). most_steps l Lock + c.args.turns) c.in_ok-set_out_lock.ensures.out.0 c.wait_turns.ensures.few))

pub returns-clause-few_out : goal.returns-clause-few_out
returns-clause-few_out g c =
    let y = c.wait_turns.new.self in
    err_any c.match-branch-3.result (λ e. e ≢ AlreadyIn) _
    (subst (λ (u : Seated). y.steps ≤ most_steps u.seat_view.setup.layout Lock + c.args.turns) c.self.view_is (few_out c.self.inside.call_driver c.set_out_lock.new.self y Lock (λ (l : Layout). most_steps l Lock + c.args.turns) c.in_ok-set_out_lock.ensures.out.0 c.wait_turns.ensures.few))
