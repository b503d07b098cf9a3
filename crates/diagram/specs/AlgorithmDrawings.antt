-- What is drawn of a run of an algorithm.
use Rattle.std.specs.Prelude.{◌≡◌, ℕ, ◌+◌, ◌-◌, ◌^◌, min, false, List, [], map, Option, Some, None, unwrap_or, Result, Ok, Err}
use Rattle.schedule.specs.Tapes.{Tape, Writes, Begins, BreaksOff}
use Rattle.schedule.specs.declared.lines.line.Line.{Line}
use Rattle.schedule.specs.declared.replays.replay_fault.ReplayFault.{ReplayFault}
use Rattle.schedule.specs.declared.replays.replay_fault.ReplayFault.TheVariants as replay
use Rattle.schedule.specs.declared.replays.verdict.Verdict.{Verdict}
use Rattle.schedule.specs.declared.texts.head.Head.{Head}
use Rattle.algorithms.specs.Worlds.{new_refusal}
use Rattle.algorithms.specs.declared.algorithm.Algorithm.{Algorithm}
use Rattle.algorithms.specs.declared.first_values.InitializedAlgorithm.{InitializedAlgorithm}
use Rattle.algorithms.specs.declared.refusal.AlgorithmRefusal.{AlgorithmRefusal}
use Rattle.algorithm_lab.specs.Monitors.{MonitorState, first_monitor}
use Rattle.algorithm_lab.specs.Refusals.{number_of}
use Rattle.algorithm_lab.specs.Reports.{verdict_of}
use Rattle.algorithm_lab.specs.Runs.{AlgorithmRun, run_on}
use Rattle.algorithm_lab.specs.declared.replay_fault.AlgorithmReplayFault.{AlgorithmReplayFault}
use Rattle.algorithm_lab.specs.declared.replay_fault.AlgorithmReplayFault.TheVariants as faults
use Rattle.algorithm_lab.specs.declared.run_refusal.RunRefusal.{RunRefusal}
use Rattle.diagram.specs.declared.algorithm.row.AlgorithmRow.{AlgorithmRow}
use Rattle.diagram.specs.declared.diagram_layout.Style.{Style}
use Rattle.diagram.specs.declared.drawing.End.{End}
use Rattle.diagram.specs.declared.drawing.End.TheVariants.{Judged, Refused}
use Rattle.diagram.specs.declared.phase.LifelinePhase.TheVariants.{Rest}
use Rattle.diagram.specs.AlgorithmEvents.{events_on}
use Rattle.diagram.specs.AlgorithmRows.{shown_in, with_events}
use Rattle.diagram.specs.Drawings.{diagram_layout_of, spelled_from, lifelines_at_start}

-- how a run ends, with the verdict on what it reports. Out of memory, which has no number, refuses no line
abbrev pub end_by : Option (ℕ × RunRefusal) → Verdict → End
end_by None verdict = Judged verdict
end_by (Some (line, refusal)) verdict = Refused line (unwrap_or (number_of refusal) 0) verdict

abbrev pub end_of : AlgorithmRun (ℕ × RunRefusal) → End
end_of run = end_by run.refused (verdict_of run.left.world.algorithm run.left.world.procs run.reports)

-- these rows, verdict and refused line are those of the run of these lines, which leaves this
abbrev pub IsDrawing : MonitorState → List Line → List AlgorithmRow → Verdict → Option (ℕ × RunRefusal) → MonitorState → Type 0
IsDrawing m lines rows verdict refused left =
    let run = run_on 2 m lines in
    (rows ≡ with_events [] (events_on m lines)) × (refused ≡ run.refused) × (left ≡ run.left) × (verdict ≡ verdict_of run.left.world.algorithm run.left.world.procs run.reports)

-- the drawing of rows: a lifeline for each process, all at rest before the first row, and none for a mailbox
abbrev pub algorithm_text : Style → Head → Algorithm → List AlgorithmRow → End → List ℕ
algorithm_text style head a rows end =
    spelled_from false (diagram_layout_of style head rows end) (lifelines_at_start head.procs Rest) (map (shown_in a) rows) end

-- the drawing of the run of these lines
abbrev pub run_text : Style → Head → MonitorState → List Line → List ℕ
run_text style head m lines =
    let run = run_on 2 m lines in
    algorithm_text style head run.left.world.algorithm (with_events [] (events_on m lines)) (end_of run)

-- where there is no world of these sizes nothing is drawn
abbrev pub text_unless : Option AlgorithmRefusal → List ℕ → List ℕ
text_unless None text = text
text_unless (Some e) text = []

-- the drawing of the run of these lines on a new world of the algorithm
abbrev pub drawn_text : Style → Head → InitializedAlgorithm → List Line → List ℕ
drawn_text style head a lines =
    text_unless (new_refusal a head.procs head.limit) (run_text style head (first_monitor a head.procs head.limit) lines)

-- what is answered once a drawing was written, or was not
abbrev pub answer_by : {A : Type 0} → Result A ReplayFault → Option (ℕ × RunRefusal) → Verdict → Result Verdict AlgorithmReplayFault
answer_by (Ok x) None verdict = Ok verdict
answer_by (Ok x) (Some (line, refusal)) verdict = Err (faults.Refused line refusal)
answer_by (Err replay.Write) refused verdict = Err faults.Write
answer_by (Err fault) refused verdict = Err faults.OutOfMemory

-- the drawing is written, and the verdict answered or the line that is refused. Where the sink or memory fails a beginning was
-- written; out of memory leaves some of it unwritten
abbrev pub DrawsRun : Tape → Tape → List ℕ → AlgorithmRun (ℕ × RunRefusal) → Result Verdict AlgorithmReplayFault → Type 0
DrawsRun before now text run (Ok verdict) = Writes before now text × (run.refused ≡ None) × (verdict ≡ verdict_of run.left.world.algorithm run.left.world.procs run.reports)
DrawsRun before now text run (Err (faults.Refused line refusal)) = Writes before now text × (run.refused ≡ Some (line, refusal))
DrawsRun before now text run (Err faults.Write) = Begins before.taken now.taken text × (now.failures ≡ min (before.failures + 1) (2 ^ 64 - 1))
DrawsRun before now text run (Err faults.OutOfMemory) = BreaksOff before.taken now.taken text × (now.failures ≡ before.failures)
