-- The page of a run: its drawing as SVG and its lines of JSON, between fixed parts.
use Rattle.std.specs.Prelude.{ℕ, List, [], ◌++◌}
use Rattle.rmeworld.specs.declared.image.Image.{Image}
use Rattle.schedule.specs.declared.texts.head.Head.{Head}
use Rattle.diagram.specs.declared.act.DiagramRow.{DiagramRow}
use Rattle.diagram.specs.declared.diagram_layout.Style.TheVariants.{Svg}
use Rattle.diagram.specs.declared.drawing.End.{End}
use Rattle.diagram.specs.declared.drawing.End.TheVariants.{Judged, Refused}
use Rattle.diagram.specs.declared.page_text.TheConstants.{PAGE_HEAD, PAGE_STEP, PAGE_SCRIPT}
use Rattle.diagram.specs.declared.phase.LifelinePhase.{LifelinePhase}
use Rattle.diagram.specs.Drawings.{diagram_layout_of, drawing_text}
use Rattle.diagram.specs.Rows.{events_in}
use Rattle.diagram.specs.StepLines.{step_lines, last_lines}

-- the lines after the steps. A run that was refused has none
abbrev pub end_lines : Image → End → List ℕ
end_lines image (Judged verdict) = last_lines image verdict
end_lines image (Refused line number verdict) = []

-- the fixed parts around a drawing and lines
abbrev pub page_of : List ℕ → List ℕ → List ℕ → List ℕ
page_of drawing steps end = PAGE_HEAD.now ++ (drawing ++ (PAGE_STEP.now ++ (steps ++ (end ++ PAGE_SCRIPT.now))))

-- the page of rows, from the image before the first to the image after the last
abbrev pub page_text : Head → LifelinePhase → Image → List DiagramRow → Image → End → List ℕ
page_text head first image rows last end =
    page_of (drawing_text (diagram_layout_of Svg head rows end) first rows end) (step_lines head first image (events_in rows)) (end_lines last end)
