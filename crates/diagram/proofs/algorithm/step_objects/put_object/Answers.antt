use Rattle.std.proofs.Common.{◌≡◌, ◌++◌, ◌∙◌, ℕ, List, OnOk, ap, subst}
use Rattle.algorithm_lab.specs.Runs.{event_reports}
use Rattle.algorithm_lab.specs.declared.run_report.TextReport.{TextReport}
use Rattle.diagram.proofs.AlgorithmSteps.{object_written}
use Rattle.diagram.proofs.Joined.{joined_three}
use Rattle.diagram.specs.AlgorithmEventLists.{run_event}
use Rattle.diagram.specs.AlgorithmSteps.{act_members, report_member}
use Rattle.diagram.specs.StepLines.{step_place}
use Rattle.diagram.proofs.algorithm.step_objects.put_object.Goals as goal

pub returns : goal.returns
returns c =
    let a = c.args.algorithm.now in
    let k = c.args.step in
    let event = c.args.marked.event in
    let old = c.args.out.now.items in
    let new = c.put_report_member.new.out.items in
    let place = step_place k c.process.result c.phase.result in
    let act = act_members a c.act.result c.args.marked.marks in
    let reports = c.as_slice.result.now in
    let reported =
    c.as_slice.ensures.value ∙ c.in_ok-put_reports.ensures ∙ ap (λ (xs : List TextReport). xs ++ event_reports (run_event event)) c.new-reports.ensures.items in
    subst (λ (text : List ℕ). OnOk c.put_report_member.result (new ≡ old ++ text)) (object_written a k c.args.marked _ _ _ reports c.process.ensures c.act.ensures c.phase.ensures reported)
    (joined_three c.put_report_member.result old c.put_step_place.new.out.items c.put_act.new.out.items new place act (report_member a reports) c.in_ok-put_step_place.ensures c.in_ok-put_act.ensures
    c.put_report_member.ensures)
