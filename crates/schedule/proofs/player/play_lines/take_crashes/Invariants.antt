use Rattle.std.proofs.Common.{◌-◌}
use Rattle.schedule.specs.Fragments.{crash_all_line, itself}
use Rattle.schedule.proofs.Fragments.{CrashesOn}
use Rattle.schedule.proofs.player.play_lines.take_crashes.Given as goal

abbrev pub invariant-loop-p : goal.invariant-loop-p
invariant-loop-p g l =
    let m = g.M.Automaton.transitions in
    CrashesOn m g.L.Listener.effects (crash_all_line m itself l.fn.machine) l.fn.listener l.listener l.p (64 - l.p) l.machine
