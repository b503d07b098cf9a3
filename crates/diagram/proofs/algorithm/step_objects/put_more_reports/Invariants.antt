use Rattle.std.proofs.Common.{◌≡◌, ◌++◌, drop}
use Rattle.diagram.specs.AlgorithmSteps.{more_reports}
use Rattle.diagram.proofs.algorithm.step_objects.put_more_reports.Given as goal

abbrev pub invariant-loop-report : goal.invariant-loop-report
invariant-loop-report l = l.out.items ++ more_reports l.algorithm (drop l.report-index l.reports) ≡ l.fn.out.items ++ more_reports l.algorithm l.reports
