use Rattle.std.proofs.Common.{◌≡◌, ◌++◌, take}
use Rattle.algorithm_lab.specs.Reports.{reports_text}
use Rattle.algorithm_lab.proofs.report.put_all_reports.Given as goal

abbrev pub invariant-loop-one : goal.invariant-loop-one
invariant-loop-one l = l.page.items ≡ l.fn.page.items ++ reports_text l.algorithm (take l.one-index l.reports)
