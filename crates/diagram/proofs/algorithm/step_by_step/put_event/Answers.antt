use Rattle.std.proofs.Common.{◌≡◌, ◌++◌, ◌∙◌, ℕ, List, OnOk, ap, subst}
use Rattle.algorithm_lab.specs.Reports.{reports_text}
use Rattle.algorithm_lab.specs.Runs.{event_reports}
use Rattle.algorithm_lab.specs.declared.run_report.TextReport.{TextReport}
use Rattle.diagram.proofs.AlgorithmEventLists.{event_written}
use Rattle.diagram.proofs.Joined.{joined}
use Rattle.diagram.specs.AlgorithmEventLists.{run_event}
use Rattle.diagram.specs.AlgorithmSimulations.{event_line}
use Rattle.diagram.proofs.algorithm.step_by_step.put_event.Goals as goal

pub returns : goal.returns
returns c =
    let a = c.args.algorithm.now in
    let event = c.args.marked.event in
    let old = c.args.out.now.items in
    let new = c.put_all_reports.new.page.items in
    let place = event_line a c.process.result c.act.result c.phase.result c.args.marked.marks in
    let reports = c.as_slice.result.now in
    let reported =
    c.as_slice.ensures.value ∙ c.in_ok-put_reports.ensures ∙ ap (λ (xs : List TextReport). xs ++ event_reports (run_event event)) c.new-reports.ensures.items in
    subst (λ (text : List ℕ). OnOk c.put_all_reports.result (new ≡ old ++ text)) (event_written a c.args.marked _ _ _ reports c.process.ensures c.act.ensures c.phase.ensures reported)
    (joined c.put_all_reports.result old c.put_place.new.out.items new place (reports_text a reports) c.in_ok-put_place.ensures c.put_all_reports.ensures)
