use Rattle.std.proofs.Common.{refl}
use Rattle.robust.proofs.CallCommon.{after_further_start, on_err, none_more, few_cut, few_ran, cut_from, ran_from}
use Rattle.table_runs.proofs.WholeSteps.{few_after, awaits}
use Rattle.robust.proofs.call.call_driver.CallDriver.follow.Goals as goal

pub returns-in_err-answer-in-Ok-clause-cut : goal.returns-in_err-answer-in-Ok-clause-cut
returns-in_err-answer-in-Ok-clause-cut g c =
    let r = c.in_err-answer-in-Ok.ensures.cut in
    on_err _ c.from_residual.result (r.0, cut_from c.args.self.now c.begin_further.new.self c.run.new.self c.args.call.now r.0 c.in-Ok.ensures.accepted.1 c.in-Ok.ensures.seat_view r.1, r.2)

pub returns-then-has_fast_way-clause-answered : goal.returns-then-has_fast_way-clause-answered
returns-then-has_fast_way-clause-answered g c =
    let f = c.fast_call.ensures in
    let r = f.ran in
    (r.0, ran_from c.args.self.now (after_further_start c.args.self.now c.args.call.now) c.fast_call.new.self c.args.call.now c.fast_call.result r.0 refl f.seat_view refl r.1, none_more r.0 r.2)

pub returns-then-has_fast_way-clause-few : goal.returns-then-has_fast_way-clause-few
returns-then-has_fast_way-clause-few g c =
    let f = c.fast_call.ensures in
    let r = f.ran in
    let y = c.args.self.now in
    let w = after_further_start y c.args.call.now in
    few_after y w c.fast_call.new.self c.args.call.now refl (few_ran w c.fast_call.new.self c.fast_call.new.self c.args.call.now c.fast_call.result r.0 refl f.seat_view refl r.1 refl)

pub returns-clause-answered : goal.returns-clause-answered
returns-clause-answered g c =
    let r = c.in_ok-answer-in-Ok.ensures.ran in
    (r.0, ran_from c.args.self.now c.begin_further.new.self c.run.new.self c.args.call.now c.in-Some.answer r.0 c.in-Ok.ensures.accepted.1 c.in-Ok.ensures.seat_view c.in-Some.is r.1, none_more r.0 r.2)

pub returns-in_err-answer-in-Ok-clause-few : goal.returns-in_err-answer-in-Ok-clause-few
returns-in_err-answer-in-Ok-clause-few g c =
    let r = c.in_err-answer-in-Ok.ensures.cut in
    let e = c.in-Ok.ensures.accepted.1 in
    few_after c.args.self.now c.begin_further.new.self c.run.new.self c.args.call.now e (few_cut c.begin_further.new.self c.run.new.self c.args.call.now r.0 c.in-Ok.ensures.seat_view (awaits c.args.self.now c.begin_further.new.self c.args.call.now e) r.1 r.3)

pub returns-clause-few : goal.returns-clause-few
returns-clause-few g c =
    let r = c.in_ok-answer-in-Ok.ensures.ran in
    let e = c.in-Ok.ensures.accepted.1 in
    few_after c.args.self.now c.begin_further.new.self c.run.new.self c.args.call.now e
    (few_ran c.begin_further.new.self c.run.new.self c.run.new.self c.args.call.now c.in-Some.answer r.0 c.in-Some.is c.in-Ok.ensures.seat_view (awaits c.args.self.now c.begin_further.new.self c.args.call.now e) r.1 refl)
