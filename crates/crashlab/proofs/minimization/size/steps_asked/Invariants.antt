use Rattle.std.proofs.Common.{◌≡◌, ◌+◌, drop}
use Rattle.crashlab.specs.minimization.Least.{steps_asked as steps_in}
use Rattle.crashlab.proofs.minimization.size.steps_asked.Given as goal

abbrev pub invariant-loop-line : goal.invariant-loop-line
invariant-loop-line l = l.sum + steps_in (drop l.line-index l.lines) ≡ steps_in l.fn.lines
