use Rattle.std.proofs.Common.{◌≡◌, drop}
use Rattle.diagram.specs.LockSimulations.{lock_with}
use Rattle.diagram.specs.Semantics.{lines_on}
use Rattle.diagram.proofs.session.lock_simulation.play_lines.Given as goal

abbrev pub invariant-loop-line : goal.invariant-loop-line
invariant-loop-line l =
    lines_on lock_with (record { world = l.world; last_steps = l.last_steps }) (drop l.line-index l.lines)
    ≡ lines_on lock_with (record { world = l.fn.world; last_steps = l.fn.last_steps }) l.lines
