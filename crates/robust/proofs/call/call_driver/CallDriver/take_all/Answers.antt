use Rattle.std.proofs.Common.{◌+◌, ◌≤◌, [], ◌++◌, refl, sym, subst, arith, length-append}
use Rattle.robust.proofs.CallCommon.{Lock, Still, on_err, crashes_of, none_more, none_of, asked_on, fell_on, length-fell, turned, turned_served, turned_cut, turning_first}
use Rattle.robust.proofs.call.call_driver.CallDriver.take_all.Goals as goal

pub loop-init : goal.loop-init
loop-init g c = record { so_far = ([], 0, turning_first c.args.self.now, record { asked = refl; fallen = refl }); begun = c.requires.begun }

pub returns-in_err-answer-clause-cut : goal.returns-in_err-answer-clause-cut
returns-in_err-answer-clause-cut g c =
    let s = c.loop.invariant.so_far in
    let r = c.in_err-answer.ensures.cut in
    on_err _ c.from_residual.result (
      s.0 ++ r.0,
      crashes_of c.args.self.now c.run.new.self Lock (s.0 ++ r.0) c.requires.seat_view c.requires.start (turned_cut c.args.self.now c.loop.self c.run.new.self s.0 r.0 s.1 s.2 r.1),
      fell_on s.3 r.2 (length-fell s.0 r.0),
    )

pub returns-in-Some-2-clause-ends : goal.returns-in-Some-2-clause-ends
returns-in-Some-2-clause-ends g c =
    let s = c.loop.invariant.so_far in
    let r = c.in_ok-answer.ensures.ran in
    let served = turned_served c.args.self.now c.loop.self c.run.new.self s.0 r.0 s.1 s.2 Lock c.in-Some-2.answer c.in-Some-2.is c.requires.seat_view c.requires.start r.1 in
    let few : s.1 ≤ s.1 = omega arith in
    (s.1, (s.1, few, (s.0 ++ r.0, served, none_more (s.0 ++ r.0) (asked_on s.3 r.2 (sym (length-append s.0 r.0))))))

pub loop-preserved : goal.loop-preserved
loop-preserved g c =
    let s = c.loop.invariant.so_far in
    let r = c.in_ok-answer.ensures.ran in
    let none = none_of _ c.in_default.not-Some in
    let still = subst (Still Lock c.run.new.self) none c.in_ok-answer.ensures.still in
    record {
      so_far = (
        s.0 ++ r.0,
        s.1 + 1,
        turned c.args.self.now c.loop.self c.run.new.self s.0 r.0 s.1 s.2 none r.1,
        asked_on s.3 r.2 (sym (length-append s.0 r.0)),
      );
      begun = (still.1, still.2, still.3);
    }
