-- The page of an algorithm's run: its drawing as SVG and its lines of JSON, between fixed parts.
use Rattle.std.specs.Prelude.{ℕ, List, [], ◌∷◌, ◌++◌}
use Rattle.schedule.specs.declared.lines.line.Line.{Line}
use Rattle.schedule.specs.declared.texts.head.Head.{Head}
use Rattle.algorithm_lab.specs.Monitors.{MonitorState}
use Rattle.diagram.specs.declared.algorithm.event_list.MonitorEvent.{MonitorEvent}
use Rattle.diagram.specs.declared.algorithm.row.AlgorithmRow.{AlgorithmRow}
use Rattle.diagram.specs.declared.diagram_layout.Style.TheVariants.{Svg}
use Rattle.diagram.specs.declared.page_text.TheConstants.{PAGE_HEAD, PAGE_STEP, PAGE_SCRIPT}
use Rattle.diagram.specs.AlgorithmDrawings.{run_text}
use Rattle.diagram.specs.AlgorithmEventLists.{shown_event}
use Rattle.diagram.specs.AlgorithmRows.{with_event}
use Rattle.diagram.specs.AlgorithmSteps.{objects_by_steps}

-- the rows after events that are kept in a list
abbrev pub with_kept : List AlgorithmRow → List MonitorEvent → List AlgorithmRow
with_kept rows [] = rows
with_kept rows (event ∷ events) = with_kept (with_event rows (shown_event event)) events

-- the fixed parts around a drawing and lines
abbrev pub page_around : List ℕ → List ℕ → List ℕ
page_around drawing lines = PAGE_HEAD.now ++ (drawing ++ (PAGE_STEP.now ++ (lines ++ PAGE_SCRIPT.now)))

-- the page of the run of these lines, up to the one that is refused
abbrev pub algorithm_page : Head → MonitorState → List Line → List ℕ
algorithm_page head m lines = page_around (run_text Svg head m lines) (objects_by_steps m lines)
