use Rattle.std.proofs.Common.{◌≡◌, suc, ◌-◌, refl, arith}
use Rattle.schedule.proofs.Fragments.{line_of_one, line_then}
use Rattle.schedule.proofs.player.play_lines.take_steps.Goals as goal

pub returns-then-not-take_unheard_step : goal.returns-then-not-take_unheard_step
returns-then-not-take_unheard_step g c = rw (← (c.if-not-take_unheard_step.ensures.same refl)) c.take_shown_steps.ensures

pub returns-then-left-eq0 : goal.returns-then-left-eq0
returns-then-left-eq0 g c =
    let count : c.args.n ≡ suc 0 = omega (arith, c.requires, c.if-left-eq0.true) in
    let unheard = c.if-not-take_unheard_step.ensures.taken refl in
    line_of_one g.M.Automaton.transitions g.L.Listener.effects c.args.p c.args.n _ _ _ _ (g.M.Automaton.transitions.step c.args.machine.now c.args.p) count unheard.0 unheard.2

pub returns : goal.returns
returns g c =
    let count : c.args.n ≡ suc (c.args.n - 1) = omega (arith, c.requires) in
    let unheard = c.if-not-take_unheard_step.ensures.taken refl in
    line_then g.M.Automaton.transitions g.L.Listener.effects c.args.p c.args.n _ _ _ _ _ _ _ (g.M.Automaton.transitions.step c.args.machine.now c.args.p) c.more_steps.result count unheard.0 unheard.1 unheard.2 c.more_steps.ensures
