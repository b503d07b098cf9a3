use Rattle.std.proofs.Common.{◌≡◌, ◌++◌, drop}
use Rattle.diagram.specs.StepLines.{more_owns}
use Rattle.diagram.proofs.step_lines.put_more_owns.Given as goal

abbrev pub invariant-loop-own : goal.invariant-loop-own
invariant-loop-own l = l.out.items ++ more_owns (drop l.own-index l.lock) ≡ l.fn.out.items ++ more_owns l.lock
