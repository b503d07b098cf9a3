use Rattle.std.proofs.Common.{◌≡◌, ◌++◌, ◌∙◌, List, ap}
use Rattle.algorithm_lab.specs.Runs.{event_reports}
use Rattle.algorithm_lab.specs.declared.run_report.TextReport.{TextReport}
use Rattle.diagram.proofs.AlgorithmPages.{event_noted}
use Rattle.diagram.proofs.Joined.{on_ok}
use Rattle.diagram.specs.AlgorithmEventLists.{run_event, shown_event}
use Rattle.diagram.specs.AlgorithmEvents.{AlgorithmEvent}
use Rattle.diagram.specs.AlgorithmRows.{with_event}
use Rattle.diagram.proofs.algorithm.row_collector.note_event.Goals as goal

pub returns : goal.returns
returns c =
    let event = c.args.event.now in
    let rows = c.args.rows.now.items in
    let new = c.note.new.rows.items in
    let parts : AlgorithmEvent = record { p = c.process.result; act = c.act.result; phase = c.phase.result; reports = c.as_slice.result.now } in
    let reported =
    c.as_slice.ensures.value ∙ c.in_ok-put_reports.ensures ∙ ap (λ (xs : List TextReport). xs ++ event_reports (run_event event)) c.new-reports.ensures.items in
    on_ok c.note.result (new ≡ with_event rows parts) (new ≡ with_event rows (shown_event event))
    (λ (noted : new ≡ with_event rows parts). noted ∙ event_noted rows event c.process.result c.act.result c.phase.result c.as_slice.result.now c.process.ensures c.act.ensures c.phase.ensures reported) c.note.ensures
