use Rattle.algorithms.proofs.remote_references.Rows.{AreCleared}
use Rattle.algorithms.proofs.remote_references.process_rows.remove_process.Given as goal

abbrev pub invariant-loop-row : goal.invariant-loop-row
invariant-loop-row l = AreCleared l.rows l.initial.rows l.p l.row-index
