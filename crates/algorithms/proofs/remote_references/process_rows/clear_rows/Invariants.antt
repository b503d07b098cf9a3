use Rattle.algorithms.proofs.remote_references.Rows.{AreEmpty}
use Rattle.algorithms.proofs.remote_references.process_rows.clear_rows.Given as goal

abbrev pub invariant-loop-row : goal.invariant-loop-row
invariant-loop-row l = AreEmpty l.rows l.initial.rows l.row-index
