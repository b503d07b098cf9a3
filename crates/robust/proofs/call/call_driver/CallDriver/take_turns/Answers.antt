use Rattle.std.proofs.Common.{◌≡◌, ℕ, ◌+◌, ◌≤◌, [], ◌++◌, refl, sym, subst, arith, length-append}
use Rattle.robust.proofs.CallCommon.{Lock, Served, Still, on_err, crashes_of, none_more, turned_few, turned_few_cut, turned_few_out, waiting_out, none_of, asked_on, fell_on, length-fell}
use Rattle.robust.proofs.CallCommon.{turned, turned_served, turned_cut, turning_first, turned_out}
use Rattle.robust.proofs.call.call_driver.CallDriver.take_turns.Goals as goal

pub loop-answer-init : goal.loop-answer-init
loop-answer-init g c = record { so_far = ([], 0, (omega arith), turning_first c.args.self.now, record { asked = refl; fallen = refl }); begun = c.requires.begun }

pub returns-in_err-answer-clause-cut : goal.returns-in_err-answer-clause-cut
returns-in_err-answer-clause-cut g c =
    let s = c.loop-answer.invariant.so_far in
    let r = c.in_err-answer.ensures.cut in
    on_err _ c.from_residual.result (
      s.0 ++ r.0,
      crashes_of c.args.self.now c.run.new.self Lock (s.0 ++ r.0) c.requires.seat_view c.requires.start (turned_cut c.args.self.now c.loop-answer.self c.run.new.self s.0 r.0 s.1 s.3 r.1),
      fell_on s.4 r.2 (length-fell s.0 r.0),
    )

pub returns-in-Some-clause-ends : goal.returns-in-Some-clause-ends
returns-in-Some-clause-ends g c =
    let s = c.loop-answer.invariant.so_far in
    let r = c.in_ok-answer.ensures.ran in
    let served = turned_served c.args.self.now c.loop-answer.self c.run.new.self s.0 r.0 s.1 s.3 Lock c.in-Some.answer c.in-Some.is c.requires.seat_view c.requires.start r.1 in
    let few : s.1 ≤ c.args.turns = (let sum = s.2 in omega arith) in
    (s.1, few, (s.0 ++ r.0, served, none_more (s.0 ++ r.0) (asked_on s.4 r.2 (sym (length-append s.0 r.0)))))

pub returns-then-left-eq0-clause-ends : goal.returns-then-left-eq0-clause-ends
returns-then-left-eq0-clause-ends g c =
    let s = c.loop-answer.invariant.so_far in
    let r = c.in_ok-answer.ensures.ran in
    let none = none_of _ c.in_default.not-Some in
    let k : s.1 ≡ c.args.turns = (let sum = s.2 in omega (arith, c.if-left-eq0.true)) in
    let t = turned c.args.self.now c.loop-answer.self c.run.new.self s.0 r.0 s.1 s.3 none r.1 in
    let served = turned_out c.args.self.now c.run.new.self (s.0 ++ r.0) s.1 Lock c.requires.seat_view c.requires.start t in
    (s.0 ++ r.0, subst (λ (u : ℕ). Served c.args.self.now Lock [] (u + 1) c.run.new.self (s.0 ++ r.0)) k served, none_more (s.0 ++ r.0) (asked_on s.4 r.2 (sym (length-append s.0 r.0))))

pub returns-then-left-eq0-clause-waiting : goal.returns-then-left-eq0-clause-waiting
returns-then-left-eq0-clause-waiting g c =
    let none = none_of _ c.in_default.not-Some in
    let still = subst (Still Lock c.run.new.self) none c.in_ok-answer.ensures.still in
    λ out. waiting_out c.run.new.self still.4

pub loop-answer-preserved : goal.loop-answer-preserved
loop-answer-preserved g c =
    let s = c.loop-answer.invariant.so_far in
    let r = c.in_ok-answer.ensures.ran in
    let none = none_of _ c.in_default.not-Some in
    let still = subst (Still Lock c.run.new.self) none c.in_ok-answer.ensures.still in
    record {
      so_far = (
        s.0 ++ r.0,
        s.1 + 1,
        (let sum = s.2 in omega (arith, c.if-left-eq0.false)),
        turned c.args.self.now c.loop-answer.self c.run.new.self s.0 r.0 s.1 s.3 none r.1,
        asked_on s.4 r.2 (sym (length-append s.0 r.0)),
      );
      begun = (still.1, still.2, still.3);
    }

pub returns-in_err-answer-clause-few : goal.returns-in_err-answer-clause-few
returns-in_err-answer-clause-few g c =
    let s = c.loop-answer.invariant.so_far in
    let r = c.in_err-answer.ensures.cut in
    turned_few_cut c.args.self.now c.loop-answer.self c.run.new.self s.0 r.0 s.1 c.args.turns (let sum = s.2 in omega arith) c.requires.seat_view c.requires.start s.3 r.1 r.3

pub returns-in-Some-clause-few : goal.returns-in-Some-clause-few
returns-in-Some-clause-few g c =
    let s = c.loop-answer.invariant.so_far in
    let r = c.in_ok-answer.ensures.ran in
    turned_few c.args.self.now c.loop-answer.self c.run.new.self s.0 r.0 s.1 c.args.turns (let sum = s.2 in omega arith) c.requires.seat_view c.requires.start s.3 c.in-Some.answer c.in-Some.is r.1

pub returns-then-left-eq0-clause-few : goal.returns-then-left-eq0-clause-few
returns-then-left-eq0-clause-few g c =
    let s = c.loop-answer.invariant.so_far in
    let r = c.in_ok-answer.ensures.ran in
    let none = none_of _ c.in_default.not-Some in
    turned_few_out c.args.self.now c.run.new.self (s.0 ++ r.0) s.1 c.args.turns (let sum = s.2 in omega arith) c.requires.seat_view c.requires.start (turned c.args.self.now c.loop-answer.self c.run.new.self s.0 r.0 s.1 s.3 none r.1)
