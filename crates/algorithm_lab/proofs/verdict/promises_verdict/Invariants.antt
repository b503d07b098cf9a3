use Rattle.std.proofs.Common.{◌≡◌, drop}
use Rattle.algorithm_lab.specs.Reports.{promises_verdict}
use Rattle.algorithm_lab.proofs.verdict.promises_verdict.Given as goal

-- the verdict on what is left, from this number on, is that on all of it
abbrev pub invariant-loop-report : goal.invariant-loop-report
invariant-loop-report l = promises_verdict 1 l.reports ≡ promises_verdict l.number (drop l.report-index l.reports)
