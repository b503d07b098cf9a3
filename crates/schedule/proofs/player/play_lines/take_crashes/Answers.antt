use Rattle.std.proofs.Common.{◌≡◌, suc, ◌+◌, ◌-◌, arith}
use Rattle.schedule.proofs.Fragments.{crashes_first, crashes_heard, crashes_stopped, crashes_end, crashes_halt}
use Rattle.schedule.proofs.player.play_lines.take_crashes.Goals as goal

pub loop-p-init : goal.loop-p-init
loop-p-init g c = crashes_first g.M.Automaton.transitions g.L.Listener.effects 0 64 c.args.listener.now c.args.machine.now

pub returns-in-Err : goal.returns-in-Err
returns-in-Err g c =
    let count : 64 - c.loop-p.p ≡ suc (64 - (c.loop-p.p + 1)) = omega (arith, c.loop-p-test.true) in
    crashes_halt g.M.Automaton.transitions g.L.Listener.effects _ _ _ c.loop-p.p _ _ _ _ c.in-Err.refusal c.last_crash.result c.loop-p.invariant count c.in-Err.ensures.refused c.in-Err.ensures.memory c.in-Err.ensures.err c.last_crash.ensures

pub returns-in-Err-hear_crash : goal.returns-in-Err-hear_crash
returns-in-Err-hear_crash g c =
    let count : 64 - c.loop-p.p ≡ suc (64 - (c.loop-p.p + 1)) = omega (arith, c.loop-p-test.true) in
    crashes_stopped g.M.Automaton.transitions g.L.Listener.effects _ _ _ c.hear_crash.new.self c.loop-p.p _ _ _ _ c.in-Ok.said c.in-Err-hear_crash.stop c.loop-p.invariant count
    c.in-Ok.ensures.accepted c.in-Ok.ensures.said c.in-Ok.ensures.ok c.in-Err-hear_crash.ensures.err

pub loop-p-preserved : goal.loop-p-preserved
loop-p-preserved g c =
    let count : 64 - c.loop-p.p ≡ suc (64 - (c.loop-p.p + 1)) = omega (arith, c.loop-p-test.true) in
    crashes_heard g.M.Automaton.transitions g.L.Listener.effects _ _ _ _ c.loop-p.p _ _ _ _ c.in-Ok.said c.loop-p.invariant count
    c.in-Ok.ensures.accepted c.in-Ok.ensures.said c.in-Ok.ensures.ok c.in_default.ensures.ok

pub returns : goal.returns
returns g c =
    let none : 64 - c.loop-p.p ≡ 0 = omega (arith, c.loop-p-test.false) in
    crashes_end g.M.Automaton.transitions g.L.Listener.effects _ _ _ c.loop-p.p _ _ c.loop-p.invariant none
