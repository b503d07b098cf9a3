use Rattle.std.proofs.Common.{◌++◌, List, ap, ◌∙◌, append-nil}
use Rattle.schedule.specs.declared.lines.line.Line.TheVariants.{CrashAll}
use Rattle.algorithm_lab.specs.Runs.{line_on}
use Rattle.algorithm_lab.specs.declared.run_report.TextReport.{TextReport}
use Rattle.algorithm_lab.proofs.line_play.crash_all.Goals as goal

-- one line, and nothing after it
pub returns-in-Ok-clause-ok : goal.returns-in-Ok-clause-ok
returns-in-Ok-clause-ok c =
    let all = (line_on c.args.monitor.now CrashAll).reports in
    (c.in-Ok.ensures.run.0 ∙ ap (λ (reports : List TextReport). c.args.reports.now.items ++ reports) (append-nil all), c.in-Ok.ensures.run.1)
