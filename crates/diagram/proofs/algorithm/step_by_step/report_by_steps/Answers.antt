use Rattle.std.proofs.Common.{[], ◌++◌, ◌∙◌, List, ℕ, ap}
use Rattle.diagram.proofs.AlgorithmMarks.{lines_of_run}
use Rattle.diagram.proofs.AlgorithmSteps.{text_made}
use Rattle.diagram.specs.AlgorithmSimulations.{marked_lines, run_text}
use Rattle.diagram.specs.AlgorithmSteps.{end_unless}
use Rattle.diagram.specs.AlgorithmMarks.{marks_kept}
use Rattle.diagram.specs.declared.algorithm.event_list.MonitorEvent.{MonitorEvent}
use Rattle.diagram.specs.declared.algorithm.remote_marks.MarkedEvent.{MarkedEvent}
use Rattle.algorithms.specs.declared.algorithm.Algorithm.{Algorithm}
use Rattle.diagram.proofs.algorithm.step_by_step.report_by_steps.Goals as goal

pub returns : goal.returns
returns c =
    let m = c.args.monitor in
    let lines = c.args.schedule.now.lines in
    let left = c.record_run.new.monitor in
    let run = c.in_ok-recording.recording in
    let is = c.in_ok-recording.ensures in
    let w = c.world-world.result.now in
    let a = c.algorithm-algorithm.result.now in
    let marked =
    c.as_slice-2.ensures.value ∙ c.in_ok-marked.ensures ∙ ap (λ (events : List MonitorEvent). marks_kept w [] events) c.as_slice.ensures.value in
    let wrote =
    c.in_ok-put_marked_events.ensures ∙ ap (λ (text : List ℕ). text ++ marked_lines a c.as_slice-2.result.now) c.new-text.ensures.items
    ∙ ap (λ (events : List MarkedEvent). marked_lines a events) marked
    ∙ ap (λ (x : Algorithm). marked_lines x (marks_kept w [] run.events.items)) c.algorithm-algorithm.ensures
    ∙ lines_of_run w m left lines run.events.items run.reports.items run.refused is in
    text_made run_text end_unless m left lines run.events.items run.reports.items run.refused w c.put_marked_events.new.out.items c.put_end.new.out.items c.in_ok-ended.ended is c.world-world.ensures wrote
    c.in_ok-ended.ensures.text c.in_ok-ended.ensures.ended
