-- A run of an algorithm step by step: its report with each step and crash above what it reports; and as JSON, an object a line
-- (docs/dev/texts.md, "Step by step" and "Step by step as JSON").
use Rattle.std.specs.Prelude.{◌≡◌, ℕ, ◌+◌, ◌-◌, List, [], ◌∷◌, ◌++◌, codes, length, take, slice_index_or, Option, Some, None, is_some, if◌then◌else◌, Result, Ok, Err, string_bytes}
use Rattle.std.specs.Fmt.{decimal}
use Rattle.schedule.specs.Schedules.{Scheduled}
use Rattle.schedule.specs.declared.lines.line.Line.{Line}
use Rattle.schedule.specs.declared.replays.verdict.Verdict.{Verdict}
use Rattle.algorithms.specs.Worlds.{AlgorithmWorldState, new_refusal}
use Rattle.algorithms.specs.declared.access.WordAccess.{WordAccess}
use Rattle.algorithms.specs.declared.algorithm.Algorithm.{Algorithm}
use Rattle.algorithms.specs.declared.algorithm.Declaration.{Declaration}
use Rattle.algorithms.specs.declared.first_values.InitializedAlgorithm.{InitializedAlgorithm}
use Rattle.algorithm_lab.specs.Monitors.{MonitorState, first_monitor}
use Rattle.algorithm_lab.specs.Replays.{HasEnd}
use Rattle.algorithm_lab.specs.Reports.{line_of_report, report_end, verdict_of, words_used}
use Rattle.algorithm_lab.specs.Runs.{run_on}
use Rattle.algorithm_lab.specs.declared.run_refusal.RunRefusal.{RunRefusal}
use Rattle.algorithm_lab.specs.declared.run_report.TextReport.{TextReport}
use Rattle.diagram.specs.declared.algorithm.event_list.MonitorEvent.{MonitorEvent}
use Rattle.diagram.specs.declared.algorithm.remote_marks.MarkedEvent.{MarkedEvent}
use Rattle.diagram.specs.declared.remote_marks.RemoteMarks.{RemoteMarks}
use Rattle.diagram.specs.declared.algorithm.row.AlgorithmAct.{AlgorithmAct}
use Rattle.diagram.specs.declared.algorithm.row.AlgorithmAct.TheVariants.{Took, Blocked}
use Rattle.diagram.specs.AlgorithmDrawings.{text_unless}
use Rattle.diagram.specs.AlgorithmEvents.{AlgorithmEvent, events_on}
use Rattle.diagram.specs.AlgorithmRows.{word_sign}
use Rattle.diagram.specs.AlgorithmSimulations.{run_text}
use Rattle.diagram.specs.Pictures.{around}
use Rattle.diagram.specs.AlgorithmMarks.{MarkedAlgorithmEvent, marked_events, marks_kept, shown_marked}
use Rattle.diagram.specs.RemoteMarks.{marks_member}
use Rattle.diagram.specs.StepLines.{quoted_text, step_place, verdict_object}

-- the text of the run of these lines: its steps and crashes, and what follows them
module _ (steps_text : AlgorithmWorldState → List AlgorithmEvent → List ℕ) (rest_text : Option (ℕ × RunRefusal) → AlgorithmWorldState → List TextReport → List ℕ) where
  abbrev pub text_by_steps : MonitorState → List Line → List ℕ
  text_by_steps m lines =
      let run = run_on 2 m lines in
      steps_text run.left.world (events_on m lines) ++ rest_text run.refused run.left.world run.reports

-- ---- in words

-- what follows the steps: the end of the report, unless a line is refused
abbrev pub end_unless : Option (ℕ × RunRefusal) → AlgorithmWorldState → List TextReport → List ℕ
end_unless None w reports = report_end w reports
end_unless (Some refusal) w reports = []

-- each step and crash with its marks and what it reports below it, and the end of the report
abbrev pub report_by_steps : MonitorState → List Line → List ℕ
report_by_steps m lines = text_by_steps run_text end_unless m lines

-- ---- as JSON: the parts of an object

-- what an access does with its word
abbrev pub name_of_access : WordAccess → List ℕ
name_of_access access = if access.swaps then codes "swap" else if is_some access.stores then codes "store" else codes "load"

-- what a swap stored, null where it stored nothing
abbrev pub swapped_value : Option ℕ → List ℕ
swapped_value None = codes ",\"stored\":null"
swapped_value (Some stored) = around (codes ",\"stored\":") stored []

abbrev pub swapped_member : WordAccess → List ℕ
swapped_member access = if access.swaps then swapped_value access.stores else []

unfoldable pub access_members : Algorithm → WordAccess → ℕ → List ℕ
access_members a access value =
    codes "\"access\":\"" ++ name_of_access access ++ codes "\",\"word\":\"" ++ word_sign a access.address
    ++ around (codes "\",\"value\":") value [] ++ swapped_member access

-- what a process does. A crash has no access
abbrev pub access_part : Algorithm → AlgorithmAct → List ℕ
access_part a (Took access value) = access_members a access value
access_part a (Blocked access value times) = access_members a access value
access_part a act = codes "\"access\":null,\"word\":null,\"value\":null"

-- the same with its marks
abbrev pub act_members : Algorithm → AlgorithmAct → Option RemoteMarks → List ℕ
act_members a act marks = access_part a act ++ marks_member marks

-- a text without its last byte
abbrev pub without_last : List ℕ → List ℕ
without_last text = take (length text - 1) text

-- a line of the report, without its end
abbrev pub quoted_report : Algorithm → TextReport → List ℕ
quoted_report a report = quoted_text (without_last (line_of_report a report))

-- further ones, each after a comma
abbrev pub more_reports : Algorithm → List TextReport → List ℕ
more_reports a [] = []
more_reports a (report ∷ reports) = 44 ∷ quoted_report a report ++ more_reports a reports

abbrev pub reports_list : Algorithm → List TextReport → List ℕ
reports_list a [] = []
reports_list a (report ∷ reports) = quoted_report a report ++ more_reports a reports

-- what a step reports, and the end of its object
unfoldable pub report_member : Algorithm → List TextReport → List ℕ
report_member a reports = codes ",\"report\":[" ++ reports_list a reports ++ codes "]}\n"

-- the k-th step or crash of a run, as an object
abbrev pub step_object : Algorithm → ℕ → MarkedAlgorithmEvent → List ℕ
step_object a k marked =
    step_place k marked.event.p marked.event.phase ++ act_members a marked.event.act marked.marks ++ report_member a marked.event.reports

-- those after k of them
abbrev pub step_objects : Algorithm → ℕ → List MarkedAlgorithmEvent → List ℕ
step_objects a k [] = []
step_objects a k (event ∷ events) = step_object a (k + 1) event ++ step_objects a (k + 1) events

-- the same of events that are kept in a list
abbrev pub marked_objects : Algorithm → ℕ → List MarkedEvent → List ℕ
marked_objects a k [] = []
marked_objects a k (marked ∷ more) = step_object a (k + 1) (shown_marked marked) ++ marked_objects a (k + 1) more

-- those of a whole run
abbrev pub kept_objects : AlgorithmWorldState → List MonitorEvent → List ℕ
kept_objects w events = marked_objects w.algorithm 0 (marks_kept w [] events)

-- further values, each after a comma
abbrev pub more_values : List ℕ → List ℕ
more_values [] = []
more_values (value ∷ values) = 44 ∷ decimal value ++ more_values values

abbrev pub values_list : List ℕ → List ℕ
values_list [] = []
values_list (value ∷ values) = decimal value ++ more_values values

-- the words of a declaration, as an object
unfoldable pub words_object : ℕ → ℕ → Declaration → List ℕ → List ℕ
words_object procs limit declaration row =
    codes "{\"words\":\"" ++ string_bytes declaration.name ++ codes "\",\"values\":["
    ++ values_list (take (words_used procs limit declaration) row) ++ codes "]}\n"

-- those of declarations, of which the first has the row at this place
abbrev pub words_objects : ℕ → ℕ → List (List ℕ) → ℕ → List Declaration → List ℕ
words_objects procs limit rows at [] = []
words_objects procs limit rows at (declaration ∷ declarations) =
    words_object procs limit declaration (slice_index_or rows at []) ++ words_objects procs limit rows (at + 1) declarations

-- ---- as JSON: all lines

-- the name of the format, and its version
unfoldable pub algorithm_format_line : List ℕ
algorithm_format_line = codes "{\"format\":\"rmelab algorithm steps\",\"version\":1}\n"

-- the last lines: the shared words, and the verdict
abbrev pub last_objects : AlgorithmWorldState → List TextReport → List ℕ
last_objects w reports = words_objects w.procs w.limit w.words 0 w.algorithm.declarations.items ++ verdict_object (verdict_of w.algorithm w.procs reports)

-- unless a line is refused
abbrev pub objects_unless : Option (ℕ × RunRefusal) → AlgorithmWorldState → List TextReport → List ℕ
objects_unless None w reports = last_objects w reports
objects_unless (Some refusal) w reports = []

-- the lines before them
abbrev pub first_objects : AlgorithmWorldState → List AlgorithmEvent → List ℕ
first_objects w events = algorithm_format_line ++ step_objects w.algorithm 0 (marked_events w [] events)

-- the format, an object for each step and crash, and the last lines
abbrev pub objects_by_steps : MonitorState → List Line → List ℕ
objects_by_steps m lines = text_by_steps first_objects objects_unless m lines

-- ---- either

-- how a run ends, by the line that is refused, if one is
abbrev pub run_outcome : Option (ℕ × RunRefusal) → Verdict → Result Verdict (ℕ × RunRefusal)
run_outcome None verdict = Ok verdict
run_outcome (Some refusal) verdict = Err refusal

-- this text was made of the run of these lines, with its end
abbrev pub IsRunText : (MonitorState → List Line → List ℕ) → MonitorState → List Line → List ℕ → Result Verdict (ℕ × RunRefusal) → Type 0
IsRunText text_of m lines text ended = (text ≡ text_of m lines) × HasEnd (run_on 2 m lines) ended

-- a text of a run on a new world of the algorithm; where there is no world of the schedule's sizes it is empty
abbrev pub text_on_new : (MonitorState → List Line → List ℕ) → InitializedAlgorithm → Scheduled → List ℕ
text_on_new text_of a schedule =
    text_unless (new_refusal a schedule.procs schedule.limit) (text_of (first_monitor a schedule.procs schedule.limit) schedule.lines)
