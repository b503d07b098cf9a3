use Rattle.std.proofs.Common.{◌≡◌, drop}
use Rattle.diagram.specs.Semantics.{lines_on}
use Rattle.diagram.proofs.session.opened.play_all.Given as goal

abbrev pub invariant-loop-line : goal.invariant-loop-line
invariant-loop-line g l =
    let after = g.S.Simulation.semantics.after in
    lines_on after l.simulation (drop l.line-index l.lines) ≡ lines_on after l.fn.simulation l.lines
