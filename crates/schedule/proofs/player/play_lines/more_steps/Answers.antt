use Rattle.std.proofs.Common.{◌≡◌, suc, ◌+◌, ◌-◌, refl, arith}
use Rattle.schedule.proofs.Fragments.{goes_same, goes_unheard, goes_heard, ends_heard, ends_none, ends_stopped, all_later, end_later}
use Rattle.schedule.proofs.player.play_lines.more_steps.Goals as goal

pub loop-preserved-then-take_unheard_step : goal.loop-preserved-then-take_unheard_step
loop-preserved-then-take_unheard_step g c =
    let count : c.args.n - c.loop.counter ≡ suc (c.args.n - (c.loop.counter + 1)) = omega (arith, c.loop-test.true) in
    goes_unheard g.M.Automaton.transitions g.L.Listener.effects c.args.p _ _ _ _ _ _ _ c.loop.invariant count (c.if-take_unheard_step.ensures.taken refl)

pub returns-in-Err : goal.returns-in-Err
returns-in-Err g c =
    let count : c.args.n - c.loop.counter ≡ suc (c.args.n - (c.loop.counter + 1)) = omega (arith, c.loop-test.true) in
    let on = goes_same g.M.Automaton.transitions g.L.Listener.effects c.args.p _ _ _ _ _ _ c.take_unheard_step.new.machine c.loop.invariant count (c.if-take_unheard_step.ensures.same refl) in
    end_later g.M.Automaton.transitions g.L.Listener.effects c.args.p c.args.n _ _ _ _ _ _ c.in-Err.refusal c.end_of.result on c.in-Err.ensures.refused c.in-Err.ensures.memory c.in-Err.ensures.err c.end_of.ensures

pub returns-in-Err-hear_step : goal.returns-in-Err-hear_step
returns-in-Err-hear_step g c =
    let count : c.args.n - c.loop.counter ≡ suc (c.args.n - (c.loop.counter + 1)) = omega (arith, c.loop-test.true) in
    let on = goes_same g.M.Automaton.transitions g.L.Listener.effects c.args.p _ _ _ _ _ _ c.take_unheard_step.new.machine c.loop.invariant count (c.if-take_unheard_step.ensures.same refl) in
    ends_stopped g.M.Automaton.transitions g.L.Listener.effects c.args.p _ _ _ c.hear_step.new.self _ _ _ _ c.in-Ok.step c.in-Err-hear_step.stop on refl c.in-Ok.ensures.ok c.in-Err-hear_step.ensures.err

pub returns-then-ends : goal.returns-then-ends
returns-then-ends g c =
    let count : c.args.n - c.loop.counter ≡ suc (c.args.n - (c.loop.counter + 1)) = omega (arith, c.loop-test.true) in
    let on = goes_same g.M.Automaton.transitions g.L.Listener.effects c.args.p _ _ _ _ _ _ c.take_unheard_step.new.machine c.loop.invariant count (c.if-take_unheard_step.ensures.same refl) in
    all_later g.M.Automaton.transitions g.L.Listener.effects c.args.p c.args.n _ _ _ _ (ends_heard g.M.Automaton.transitions g.L.Listener.effects c.args.p _ _ _ _ _ _ _ _ c.in-Ok.step on refl c.in-Ok.ensures.ok (grind arith) c.in_default.ensures.ok)

pub loop-preserved : goal.loop-preserved
loop-preserved g c =
    let count : c.args.n - c.loop.counter ≡ suc (c.args.n - (c.loop.counter + 1)) = omega (arith, c.loop-test.true) in
    let on = goes_same g.M.Automaton.transitions g.L.Listener.effects c.args.p _ _ _ _ _ _ c.take_unheard_step.new.machine c.loop.invariant count (c.if-take_unheard_step.ensures.same refl) in
    goes_heard g.M.Automaton.transitions g.L.Listener.effects c.args.p _ _ _ _ _ _ _ _ c.in-Ok.step on refl c.in-Ok.ensures.ok (grind arith) c.in_default.ensures.ok

pub returns : goal.returns
returns g c =
    let none : c.args.n - c.loop.counter ≡ 0 = omega (arith, c.loop-test.false) in
    all_later g.M.Automaton.transitions g.L.Listener.effects c.args.p c.args.n _ _ _ _ (ends_none g.M.Automaton.transitions g.L.Listener.effects c.args.p _ _ _ _ _ c.loop.invariant none)
