use Rattle.std.proofs.Common.{◌≡◌, ◌+◌, drop}
use Rattle.schedule.specs.Fragments.{itself, run_on}
use Rattle.schedule.proofs.Fragments.{RunsOn}
use Rattle.schedule.proofs.player.play_lines.play_lines.Given as goal

abbrev pub invariant-loop-line : goal.invariant-loop-line
invariant-loop-line g l =
    let m = g.M.Automaton.transitions in
    RunsOn m g.L.Listener.effects (run_on m itself 2 l.fn.machine l.lines) l.fn.listener l.listener l.number l.machine (drop l.line-index l.lines) × (l.number ≡ l.line-index + 2)
