use Rattle.std.proofs.Common.{◌≡◌, ◌++◌, drop}
use Rattle.diagram.proofs.Common.{bars}
use Rattle.diagram.proofs.bars.put_bars.Given as goal

abbrev pub invariant-loop-phase : goal.invariant-loop-phase
invariant-loop-phase l = l.out.items ++ bars (drop l.phase-index l.phases) ≡ l.fn.out.items ++ bars l.phases
