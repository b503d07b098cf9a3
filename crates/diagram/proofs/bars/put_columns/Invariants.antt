use Rattle.std.proofs.Common.{◌≡◌, ◌++◌, drop}
use Rattle.diagram.proofs.Common.{columns}
use Rattle.diagram.proofs.bars.put_columns.Given as goal

abbrev pub invariant-loop-phase : goal.invariant-loop-phase
invariant-loop-phase l =
    (l.out.items ++ columns l.row l.q (drop l.phase-index l.phases) ≡ l.fn.out.items ++ columns l.row 0 l.phases) × (l.q ≡ l.phase-index)
