use Rattle.std.proofs.Common.{◌≡◌, ℕ, suc, ◌+◌, ◌-◌, ◌≤◌, false, None, refl, subst, arith}
use Rattle.robust.proofs.CallCommon.{Lasts, process_state_now, Seated, TakesStep, on_err, fell_on, more, goes_on, ran_answered, ran_blocked, none_of, asked_more, fits_answer, goes_with}
use Rattle.robust.proofs.CallCommon.{still_blocked}
use Rattle.robust.proofs.call.call_driver.CallDriver.run.Goals as goal

left_is : (turn : ℕ) → turn + 1 ≤ 256 → 256 - turn ≡ suc (256 - (turn + 1))
left_is turn h = omega arith

pub loop-turn-init : goal.loop-turn-init
loop-turn-init g c =
    let none = none_of c.fast_way.result c.in_default.not-Some in
    let o = c.fast_way.ensures.on none in
    let b = c.fast_way.ensures.begun none in
    record { so_far = o; under = b.0; busy = b.1; lasts = b.2 }

pub returns-in_err-ask-clause-cut : goal.returns-in_err-ask-clause-cut
returns-in_err-ask-clause-cut g c =
    let i = c.loop-turn.invariant in
    let s = i.so_far in
    let f = c.in_err-ask.ensures in
    on_err _ c.from_residual.result (
      s.0,
      record { last = c.loop-turn.self; takes = s.1.takes; steps = s.1.steps; crash = f.falls.0 },
      fell_on s.2 f.falls.1 refl,
      s.1.blocked,
    )

pub returns-in-Some-answer-clause-ran : goal.returns-in-Some-answer-clause-ran
returns-in-Some-answer-clause-ran g c =
    let i = c.loop-turn.invariant in
    let w = c.in_ok-ask.ensures.goes_on in
    let s = subst (λ (y : Seated). TakesStep y c.advance-outcome.result c.advance-outcome.new.self) w.0 c.advance-outcome.ensures in
    let y = c.loop-turn.self in (
      more c.args.self.now y c.advance-outcome.new.self i.so_far.0 c.advance-outcome.result i.so_far.1 s,
      ran_answered c.args.self.now y c.advance-outcome.new.self i.so_far.0 c.advance-outcome.result i.so_far.1 s c.in-Some-answer.answer c.in-Some-answer.is,
      asked_more c.args.self.now y c.advance-outcome.new.self i.so_far.0 c.advance-outcome.result i.so_far.1 s i.so_far.2 w.1,
    )

pub returns-in-Some-answer-clause-still : goal.returns-in-Some-answer-clause-still
returns-in-Some-answer-clause-still g c =
    let i = c.loop-turn.invariant in
    let w = c.in_ok-ask.ensures.goes_on in
    let s = subst (λ (y : Seated). TakesStep y c.advance-outcome.result c.advance-outcome.new.self) w.0 c.advance-outcome.ensures in
    let y = c.loop-turn.self in
    let k = 256 - (c.loop-turn.turn + 1) in
    fits_answer c.args.call.now y c.advance-outcome.new.self c.advance-outcome.result k c.in-Some-answer.answer s i.under (subst (λ (m : ℕ). Lasts y.seat_view.setup.layout.procs m (process_state_now y.seat_view)) (left_is c.loop-turn.turn (omega arith)) i.lasts) c.in-Some-answer.is

pub returns-then-outcome-clause-ran : goal.returns-then-outcome-clause-ran
returns-then-outcome-clause-ran g c =
    let i = c.loop-turn.invariant in
    let w = c.in_ok-ask.ensures.goes_on in
    let s = subst (λ (y : Seated). TakesStep y c.advance-outcome.result c.advance-outcome.new.self) w.0 c.advance-outcome.ensures in
    let y = c.loop-turn.self in (
      more c.args.self.now y c.advance-outcome.new.self i.so_far.0 c.advance-outcome.result i.so_far.1 s,
      ran_blocked c.args.self.now y c.advance-outcome.new.self i.so_far.0 c.advance-outcome.result i.so_far.1 s c.if-outcome.true,
      asked_more c.args.self.now y c.advance-outcome.new.self i.so_far.0 c.advance-outcome.result i.so_far.1 s i.so_far.2 w.1,
    )

pub returns-then-outcome-clause-still : goal.returns-then-outcome-clause-still
returns-then-outcome-clause-still g c =
    let i = c.loop-turn.invariant in
    let w = c.in_ok-ask.ensures.goes_on in
    let s = subst (λ (y : Seated). TakesStep y c.advance-outcome.result c.advance-outcome.new.self) w.0 c.advance-outcome.ensures in
    let y = c.loop-turn.self in
    let k = 256 - (c.loop-turn.turn + 1) in
    let none : c.advance-outcome.result.answer ≡ None = none_of c.advance-outcome.result.answer c.in_default-answer.not-Some in
    still_blocked c.args.call.now y c.advance-outcome.new.self c.advance-outcome.result k (omega arith) s i.under (subst (λ (m : ℕ). Lasts y.seat_view.setup.layout.procs m (process_state_now y.seat_view)) (left_is c.loop-turn.turn (omega arith)) i.lasts) none c.if-outcome.true

pub loop-turn-preserved : goal.loop-turn-preserved
loop-turn-preserved g c =
    let i = c.loop-turn.invariant in
    let w = c.in_ok-ask.ensures.goes_on in
    let s = subst (λ (y : Seated). TakesStep y c.advance-outcome.result c.advance-outcome.new.self) w.0 c.advance-outcome.ensures in
    let y = c.loop-turn.self in
    let k = 256 - (c.loop-turn.turn + 1) in
    let none : c.advance-outcome.result.answer ≡ None = none_of c.advance-outcome.result.answer c.in_default-answer.not-Some in
    let next = goes_with c.args.call.now y c.advance-outcome.new.self c.advance-outcome.result k false s i.under (subst (λ (m : ℕ). Lasts y.seat_view.setup.layout.procs m (process_state_now y.seat_view)) (left_is c.loop-turn.turn (omega arith)) i.lasts) none c.if-outcome.false in
    record {
      so_far = (
        more c.args.self.now y c.advance-outcome.new.self i.so_far.0 c.advance-outcome.result i.so_far.1 s,
        goes_on c.args.self.now y c.advance-outcome.new.self i.so_far.0 c.advance-outcome.result i.so_far.1 s none c.if-outcome.false,
        asked_more c.args.self.now y c.advance-outcome.new.self i.so_far.0 c.advance-outcome.result i.so_far.1 s i.so_far.2 w.1,
      );
      under = next.0;
      busy = next.1;
      lasts = next.2;
    }
