use Rattle.std.proofs.Common.{◌++◌, ◌∙◌, List, Option, ℕ, ap}
use Rattle.algorithm_lab.specs.declared.run_refusal.RunRefusal.{RunRefusal}
use Rattle.algorithms.specs.Worlds.{AlgorithmWorldState}
use Rattle.diagram.proofs.AlgorithmPages.{drawing_is, page_made}
use Rattle.diagram.proofs.AlgorithmSteps.{lines_are}
use Rattle.diagram.specs.AlgorithmDrawings.{algorithm_text, end_by}
use Rattle.diagram.specs.AlgorithmPages.{page_around}
use Rattle.diagram.specs.declared.diagram_layout.Style.TheVariants.{Svg}
use Rattle.schedule.specs.Schedules.{head_of}
use Rattle.diagram.proofs.algorithm.page.page_of_run.Goals as goal

pub returns : goal.returns
returns c =
    let m = c.args.monitor in
    let left = c.record_run.new.monitor in
    let schedule = c.args.schedule.now in
    let run = c.in_ok-recording.recording in
    let is = c.in_ok-recording.ensures in
    let w = c.world-world.result.now in
    let drawing = c.in_ok-drawing.drawing in
    let made = c.in_ok-lines.lines in
    let ruled = c.in_ok-drawing.ensures.verdict in
    let drawn =
    drawing_is m left schedule.lines run.events.items run.reports.items run.refused w drawing.rows.items drawing.verdict is c.world-world.ensures c.in_ok-drawing.ensures.rows ruled in
    let text = lines_are m left schedule.lines run.events.items run.reports.items run.refused w made.text.items made.ended is c.world-world.ensures c.in_ok-lines.ensures.text c.in_ok-lines.ensures.ended in
    let pictured =
    c.in_ok-picture.ensures
    ∙ ap (λ (refused : Option (ℕ × RunRefusal)). algorithm_text Svg c.head.result c.algorithm.result.now drawing.rows.items (end_by refused drawing.verdict)) c.in_ok-drawing.ensures.refused in
    let put =
    c.in_ok-put_page.ensures ∙ ap (λ (front : List ℕ). front ++ page_around c.as_slice.result.now c.as_slice-2.result.now) c.new-text.ensures.items
    ∙ ap (λ (picture : List ℕ). page_around picture c.as_slice-2.result.now) c.as_slice.ensures ∙ ap (page_around c.in_ok-picture.picture.bytes.items) c.as_slice-2.ensures.value in
    page_made (head_of schedule) c.head.result m left schedule.lines drawing.rows.items drawing.verdict run.refused c.algorithm.result.now c.in_ok-picture.picture.bytes.items made.text.items
    c.put_page.new.out.items made.ended c.head.ensures drawn (c.algorithm.ensures ∙ ap (λ (s : AlgorithmWorldState). s.algorithm) c.world-world.ensures)
    pictured text put
