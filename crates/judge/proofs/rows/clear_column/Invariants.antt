use Rattle.judge.proofs.Bits.{Cleared}
use Rattle.judge.proofs.rows.clear_column.Given as goal

abbrev pub invariant-loop-row : goal.invariant-loop-row
invariant-loop-row l = Cleared l.rows l.initial.rows l.p l.row-index
