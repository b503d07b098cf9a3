use Rattle.std.proofs.Common.{refl, ap}
use Rattle.robust.proofs.CallCommon.{Seated, on_err, asked_on, fell_on, served_as, crashes_of, cut_ran, few_cut, few_ran}
use Rattle.robust.proofs.call.call_driver.CallDriver.serve.Goals as goal

pub returns-in_err-answer-clause-cut : goal.returns-in_err-answer-clause-cut
returns-in_err-answer-clause-cut g c =
    let r = c.in_err-answer.ensures.cut in
    on_err _ c.from_residual.result (r.0, crashes_of c.args.self.now c.run.new.self c.args.call.now r.0 c.requires.seat_view c.requires.start r.1, r.2)

pub returns-in_err-ask-in-Some-clause-cut : goal.returns-in_err-ask-in-Some-clause-cut
returns-in_err-ask-in-Some-clause-cut g c =
    let r = c.in_ok-answer.ensures.ran in
    let f = c.in_err-ask-in-Some.ensures in
    on_err _ c.from_residual-in_err-ask-in-Some.result
    (r.0, crashes_of c.args.self.now c.ask.new.self c.args.call.now r.0 c.requires.seat_view c.requires.start (cut_ran c.args.self.now c.run.new.self c.ask.new.self _ r.0 r.1 f.falls.0), fell_on r.2 f.falls.1 refl)

pub returns-clause-answered : goal.returns-clause-answered
returns-clause-answered g c =
    let r = c.in_ok-answer.ensures.ran in
    let w = c.in_ok-ask-in-Some.ensures in
    (r.0, served_as c.args.self.now c.run.new.self c.ask.new.self c.args.call.now c.in-Some.answer r.0 c.requires.seat_view c.requires.start c.in-Some.is r.1 w.goes_on.0, asked_on r.2 w.goes_on.1 refl)

pub returns-clause-idle : goal.returns-clause-idle
returns-clause-idle g c = (returns-clause-answered g c).1.idle

pub returns-in_err-answer-clause-few : goal.returns-in_err-answer-clause-few
returns-in_err-answer-clause-few g c =
    let r = c.in_err-answer.ensures.cut in
    few_cut c.args.self.now c.run.new.self c.args.call.now r.0 c.requires.seat_view c.requires.start r.1 r.3

pub returns-in_err-ask-in-Some-clause-few : goal.returns-in_err-ask-in-Some-clause-few
returns-in_err-ask-in-Some-clause-few g c =
    let r = c.in_ok-answer.ensures.ran in
    let f = c.in_err-ask-in-Some.ensures in
    few_ran c.args.self.now c.run.new.self c.ask.new.self c.args.call.now c.in-Some.answer r.0 c.in-Some.is c.requires.seat_view c.requires.start r.1 (ap (λ (u : Seated). u.steps) f.falls.0)

pub returns-clause-few : goal.returns-clause-few
returns-clause-few g c =
    let r = c.in_ok-answer.ensures.ran in
    let w = c.in_ok-ask-in-Some.ensures in
    few_ran c.args.self.now c.run.new.self c.ask.new.self c.args.call.now c.in-Some.answer r.0 c.in-Some.is c.requires.seat_view c.requires.start r.1 (ap (λ (u : Seated). u.steps) w.goes_on.0)
