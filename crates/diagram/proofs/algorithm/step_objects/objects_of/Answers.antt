use Rattle.std.proofs.Common.{[], ◌++◌, ◌∙◌, List, ℕ, ap}
use Rattle.algorithms.specs.declared.algorithm.Algorithm.{Algorithm}
use Rattle.diagram.specs.AlgorithmSteps.{algorithm_format_line, marked_objects, objects_unless}
use Rattle.diagram.specs.AlgorithmMarks.{marks_kept}
use Rattle.diagram.specs.declared.algorithm.event_list.MonitorEvent.{MonitorEvent}
use Rattle.diagram.specs.declared.algorithm.remote_marks.MarkedEvent.{MarkedEvent}
use Rattle.diagram.proofs.algorithm.step_objects.objects_of.Goals as goal

pub returns-clause-text : goal.returns-clause-text
returns-clause-text c =
    let run = c.args.recording.now in
    let world = c.args.world.now in
    let a = c.algorithm-algorithm.result.now in
    let steps =
    c.in_ok-put_steps.ensures ∙ ap (λ (text : List ℕ). text ++ (algorithm_format_line ++ marked_objects a 0 c.as_slice-2.result.now)) c.new-text.ensures.items
    ∙ ap (λ (marked : List MarkedEvent). algorithm_format_line ++ marked_objects a 0 marked) (c.as_slice-2.ensures.value ∙ c.in_ok-marked.ensures)
    ∙ ap (λ (events : List MonitorEvent). algorithm_format_line ++ marked_objects a 0 (marks_kept world [] events)) c.as_slice.ensures.value
    ∙ ap (λ (x : Algorithm). algorithm_format_line ++ marked_objects x 0 (marks_kept world [] run.events.items)) c.algorithm-algorithm.ensures in
    c.in_ok-ended.ensures.text ∙ ap (λ (text : List ℕ). text ++ objects_unless run.refused world run.reports.items) steps
