use Rattle.diagram.proofs.AlgorithmReported.{run_reported}
use Rattle.diagram.proofs.algorithm.laws.rows_report_their_run.Goals as goal

pub returns : goal.returns
returns c = run_reported
