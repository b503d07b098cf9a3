use Rattle.std.proofs.Common.{◌≡◌, ◌++◌}
use Rattle.diagram.proofs.Common.{spaces}
use Rattle.diagram.proofs.page_parts.put_spaces.Given as goal

abbrev pub invariant-loop : goal.invariant-loop
invariant-loop l = l.out.items ≡ l.fn.out.items ++ spaces l.counter
