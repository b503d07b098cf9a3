use Rattle.std.proofs.Common.{◌≡◌, suc, ◌-◌, refl, arith}
use Rattle.schedule.proofs.Fragments.{line_halts, line_stops_at, line_of_one, line_ends, line_then}
use Rattle.schedule.proofs.player.play_lines.take_shown_steps.Goals as goal

pub returns-in-Err : goal.returns-in-Err
returns-in-Err g c =
    let count : c.args.n ≡ suc (c.args.n - 1) = omega (arith, c.requires) in
    line_halts g.M.Automaton.transitions g.L.Listener.effects c.args.p c.args.n _ _ _ _ c.in-Err.refusal c.stop_of.result count c.in-Err.ensures.refused c.in-Err.ensures.memory c.in-Err.ensures.err c.stop_of.ensures

pub returns-in-Err-hear_step : goal.returns-in-Err-hear_step
returns-in-Err-hear_step g c =
    let count : c.args.n ≡ suc (c.args.n - 1) = omega (arith, c.requires) in
    line_stops_at g.M.Automaton.transitions g.L.Listener.effects c.args.p c.args.n _ _ c.hear_step.new.self _ _ c.in-Ok.step c.in-Err-hear_step.stop count c.in-Ok.ensures.ok c.in-Err-hear_step.ensures.err

pub returns-then-n-eq1 : goal.returns-then-n-eq1
returns-then-n-eq1 g c =
    line_of_one g.M.Automaton.transitions g.L.Listener.effects c.args.p c.args.n _ _ _ _ c.in-Ok.step c.if-n-eq1.true c.in-Ok.ensures.ok c.in_default.ensures.ok

pub returns-then-ends : goal.returns-then-ends
returns-then-ends g c =
    let count : c.args.n ≡ suc (c.args.n - 1) = omega (arith, c.requires) in
    line_ends g.M.Automaton.transitions g.L.Listener.effects c.args.p c.args.n _ _ _ _ _ c.in-Ok.step count c.in-Ok.ensures.ok (grind arith) c.in_default.ensures.ok

pub returns : goal.returns
returns g c =
    let count : c.args.n ≡ suc (c.args.n - 1) = omega (arith, c.requires) in
    line_then g.M.Automaton.transitions g.L.Listener.effects c.args.p c.args.n _ _ _ _ _ _ _ c.in-Ok.step c.more_steps.result count c.in-Ok.ensures.ok (grind arith) c.in_default.ensures.ok c.more_steps.ensures
