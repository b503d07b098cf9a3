use Rattle.std.proofs.Common.{◌-◌}
use Rattle.schedule.proofs.Fragments.{all_steps, GoesOn}
use Rattle.schedule.proofs.player.play_lines.more_steps.Given as goal

abbrev pub invariant-loop : goal.invariant-loop
invariant-loop g l =
    let m = g.M.Automaton.transitions in
    GoesOn m g.L.Listener.effects l.p (all_steps m l.p l.n l.fn.machine) l.fn.listener l.listener (l.n - l.counter) l.machine
