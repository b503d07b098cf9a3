use Rattle.std.proofs.Common.{◌≡◌, ◌++◌, take}
use Rattle.crashlab.specs.minimization.Least.{with_lines}
use Rattle.crashlab.proofs.minimization.replaced.put_lines.Given as goal

abbrev pub invariant-loop-line : goal.invariant-loop-line
invariant-loop-line l = l.schedule ≡ with_lines l.fn.schedule (l.fn.schedule.lines ++ take l.line-index l.lines)
