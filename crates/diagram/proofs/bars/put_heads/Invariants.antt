use Rattle.std.proofs.Common.{◌≡◌, ◌++◌, drop}
use Rattle.diagram.proofs.Common.{heads}
use Rattle.diagram.proofs.bars.put_heads.Given as goal

abbrev pub invariant-loop-p : goal.invariant-loop-p
invariant-loop-p l = l.out.items ++ heads l.p (drop l.p l.phases) ≡ l.fn.out.items ++ heads 0 l.phases
