use Rattle.std.proofs.Common.{◌≡◌, None, sym, ap, ◌∙◌, subst}
use Rattle.robust.proofs.CallCommon.{Withdraw, refusal_now, Seated, on_err, lock_asked, lock_cut, lock_idle, lock_counts}
use Rattle.robust.proofs.call.call_driver.CallDriver.wait_turns.Goals as goal

pub returns-in_err-ask-clause-cut : goal.returns-in_err-ask-clause-cut
returns-in_err-ask-clause-cut g c =
    let f = c.in_err-ask.ensures in
    on_err _ c.from_residual-in_err-ask.result (lock_cut c.args.self.now c.take_turns.new.self c.ask.new.self c.args.turns _ _ _ _ c.in_ok-answer.ensures.ends f.falls.0 f.falls.1)

pub returns-clause-ends : goal.returns-clause-ends
returns-clause-ends g c =
    let w = c.in_ok-ask.ensures in
    lock_asked c.args.self.now c.take_turns.new.self c.ask.new.self c.args.turns _ _ _ _ c.in_ok-answer.ensures.ends w.goes_on.0 w.goes_on.1

pub returns-clause-waiting : goal.returns-clause-waiting
returns-clause-waiting g c =
    λ none. subst (λ (u : Seated). refusal_now u Withdraw ≡ None) (sym c.in_ok-ask.ensures.goes_on.0) (c.in_ok-answer.ensures.waiting none)

pub returns-clause-idle : goal.returns-clause-idle
returns-clause-idle g c =
    ap (λ (u : Seated). u.seat_view.start) c.in_ok-ask.ensures.goes_on.0 ∙ lock_idle c.args.self.now c.take_turns.new.self c.args.turns _ _ _ c.in_ok-answer.ensures.ends

pub returns-clause-counts : goal.returns-clause-counts
returns-clause-counts g c =
    lock_counts c.args.self.now c.ask.new.self c.args.turns _ _ c.in_ok-answer.answer (returns-clause-ends g c)
