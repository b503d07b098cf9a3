-- A run of an algorithm that is written step by step.
use Rattle.std.proofs.Common.{◌≡◌, ℕ, ◌+◌, List, [], ◌∷◌, ◌++◌, map, Option, Some, None, Result, Ok, Err, IfOk, refl, sym, ap, ◌∙◌, subst, append-nil}
use Rattle.diagram.proofs.Common.{Line}
use Rattle.diagram.proofs.AlgorithmMarks.{marks_of_run}
use Rattle.schedule.specs.Schedules.{Scheduled}
use Rattle.schedule.specs.Tapes.{Tape}
use Rattle.schedule.specs.declared.replays.verdict.Verdict.{Verdict}
use Rattle.algorithms.specs.Worlds.{AlgorithmWorldState, new_refusal}
use Rattle.algorithms.specs.declared.algorithm.Algorithm.{Algorithm}
use Rattle.algorithms.specs.declared.first_values.InitializedAlgorithm.{InitializedAlgorithm}
use Rattle.algorithms.specs.declared.refusal.AlgorithmRefusal.{AlgorithmRefusal}
use Rattle.algorithm_lab.specs.Monitors.{MonitorState, first_monitor}
use Rattle.algorithm_lab.specs.Replays.{HasEnd, WritesRunText, run_of, run_unless, world_fault}
use Rattle.algorithm_lab.specs.Reports.{verdict_of}
use Rattle.algorithm_lab.specs.Runs.{AlgorithmRun, event_reports, run_on}
use Rattle.algorithm_lab.specs.declared.replay_fault.AlgorithmReplayFault.{AlgorithmReplayFault}
use Rattle.algorithm_lab.specs.declared.replay.ReplayText.{ReplayText}
use Rattle.algorithm_lab.specs.declared.run_refusal.RunRefusal.{RunRefusal}
use Rattle.algorithm_lab.specs.declared.run_report.TextReport.{TextReport}
use Rattle.diagram.specs.declared.algorithm.event_list.MonitorEvent.{MonitorEvent}
use Rattle.diagram.specs.declared.algorithm.remote_marks.MarkedEvent.{MarkedEvent}
use Rattle.diagram.specs.declared.algorithm.row.AlgorithmAct.{AlgorithmAct}
use Rattle.diagram.specs.declared.phase.LifelinePhase.{LifelinePhase}
use Rattle.diagram.specs.AlgorithmDrawings.{text_unless}
use Rattle.diagram.specs.AlgorithmEventLists.{IsRecording, run_event}
use Rattle.diagram.specs.AlgorithmEvents.{AlgorithmEvent, event_act, event_phase, event_process, events_on}
use Rattle.diagram.specs.AlgorithmSteps.{IsRunText, act_members, algorithm_format_line, first_objects, kept_objects, marked_objects, objects_by_steps, objects_unless, report_member, run_outcome, step_object, step_objects, text_by_steps, text_on_new}
use Rattle.diagram.specs.AlgorithmMarks.{marked_events, marks_kept, shown_marked}
use Rattle.diagram.specs.StepLines.{step_place}

-- ---- the objects of events that are kept

-- an object is written by its parts
pub object_written : (a : Algorithm) (k : ℕ) (marked : MarkedEvent) (p : ℕ) (act : AlgorithmAct) (phase : LifelinePhase) (reports : List TextReport) → p ≡ event_process (run_event marked.event)
    → act ≡ event_act (run_event marked.event) → phase ≡ event_phase (run_event marked.event) → reports ≡ event_reports (run_event marked.event)
    → step_place k p phase ++ act_members a act marked.marks ++ report_member a reports ≡ step_object a k (shown_marked marked)
object_written a k marked p act phase reports process acts phases reported = rw (process, acts, phases, reported) refl

objects_shown : (a : Algorithm) (k : ℕ) (marked : List MarkedEvent) → marked_objects a k marked ≡ step_objects a k (map shown_marked marked)
objects_shown a k [] = refl
objects_shown a k (m ∷ ms) = ap (λ (text : List ℕ). step_object a (k + 1) (shown_marked m) ++ text) (objects_shown a (k + 1) ms)

-- the objects of a run that is recorded
pub objects_of_run : (w : AlgorithmWorldState) (m left : MonitorState) (lines : List Line) (events : List MonitorEvent) (reports : List TextReport) (refused : Option (ℕ × RunRefusal))
    → IsRecording m left lines events reports refused → kept_objects w events ≡ step_objects w.algorithm 0 (marked_events w [] (events_on m lines))
objects_of_run w m left lines events reports refused is =
    objects_shown w.algorithm 0 (marks_kept w [] events) ∙ ap (step_objects w.algorithm 0) (marks_of_run w m left lines events reports refused is)

-- ---- a text of a run that is recorded

outcome_is : (run : AlgorithmRun (ℕ × RunRefusal)) (refused : Option (ℕ × RunRefusal)) (verdict : Verdict) → refused ≡ run.refused → verdict ≡ verdict_of run.left.world.algorithm run.left.world.procs run.reports
    → HasEnd run (run_outcome refused verdict)
outcome_is run None verdict is ruled = (sym is, ruled)
outcome_is run (Some refusal) verdict is ruled = sym is

module _ (steps_text : AlgorithmWorldState → List AlgorithmEvent → List ℕ) (rest_text : Option (ℕ × RunRefusal) → AlgorithmWorldState → List TextReport → List ℕ) where
  pub text_made : (m left : MonitorState) (lines : List Line) (events : List MonitorEvent) (reports : List TextReport) (refused : Option (ℕ × RunRefusal)) (w : AlgorithmWorldState)
      (mid new : List ℕ) (ended : Result Verdict (ℕ × RunRefusal)) → IsRecording m left lines events reports refused → w ≡ left.world → mid ≡ steps_text w (events_on m lines)
      → new ≡ mid ++ rest_text refused w reports → ended ≡ run_outcome refused (verdict_of w.algorithm w.procs reports) → IsRunText (text_by_steps steps_text rest_text) m lines new ended
  text_made m left lines events reports refused w mid new ended is world steps rest ends =
      let run = run_on 2 m lines in
      let same : w ≡ run.left.world = world ∙ ap (λ (s : MonitorState). s.world) is.stands in (
        rest ∙ ap (λ (text : List ℕ). text ++ rest_text refused w reports) steps
            ∙ ap (λ (s : AlgorithmWorldState). steps_text s (events_on m lines) ++ rest_text refused s reports) same
            ∙ ap (λ (o : Option (ℕ × RunRefusal)). steps_text run.left.world (events_on m lines) ++ rest_text o run.left.world reports) is.refused_is
            ∙ ap (λ (ts : List TextReport). steps_text run.left.world (events_on m lines) ++ rest_text run.refused run.left.world ts) is.reports_are,
        subst (λ (r : Result Verdict (ℕ × RunRefusal)). HasEnd run r) (sym ends)
            (outcome_is run refused (verdict_of w.algorithm w.procs reports) is.refused_is
            (ap (λ (s : AlgorithmWorldState). verdict_of s.algorithm s.procs reports) same ∙ ap (verdict_of run.left.world.algorithm run.left.world.procs) is.reports_are)),
      )

-- the lines of a run that is recorded
pub lines_are : (m left : MonitorState) (lines : List Line) (events : List MonitorEvent) (reports : List TextReport) (refused : Option (ℕ × RunRefusal)) (w : AlgorithmWorldState)
    (text : List ℕ) (ended : Result Verdict (ℕ × RunRefusal)) → IsRecording m left lines events reports refused → w ≡ left.world
    → text ≡ (algorithm_format_line ++ kept_objects w events) ++ objects_unless refused w reports → ended ≡ run_outcome refused (verdict_of w.algorithm w.procs reports)
    → IsRunText objects_by_steps m lines text ended
lines_are m left lines events reports refused w text ended is world made ends =
    text_made first_objects objects_unless m left lines events reports refused w (algorithm_format_line ++ kept_objects w events) text ended is world
    (ap (λ (t : List ℕ). algorithm_format_line ++ t) (objects_of_run w m left lines events reports refused is)) made ends

pub lines_made : (m left : MonitorState) (lines : List Line) (events : List MonitorEvent) (reports : List TextReport) (refused : Option (ℕ × RunRefusal)) (w : AlgorithmWorldState)
    {A : Type 0} (r : Result ReplayText A) → IsRecording m left lines events reports refused → w ≡ left.world
    → IfOk r (λ made. made.text.items ≡ (algorithm_format_line ++ kept_objects w events) ++ objects_unless refused w reports)
    → IfOk r (λ made. made.ended ≡ run_outcome refused (verdict_of w.algorithm w.procs reports)) → IfOk r (λ made. IsRunText objects_by_steps m lines made.text.items made.ended)
lines_made m left lines events reports refused w (Err e) is world made ends = tt
lines_made m left lines events reports refused w (Ok text) is world made ends = lines_are m left lines events reports refused w text.text.items text.ended is world made ends

-- ---- a new world

module _ (text_of : MonitorState → List Line → List ℕ) where
  on_world : (r : Option AlgorithmRefusal) (m : MonitorState) (lines : List Line) (before now : Tape) (answer : Result Verdict AlgorithmReplayFault) → r ≡ None
      → WritesRunText before now (text_of m lines) (run_on 2 m lines) answer → WritesRunText before now (text_unless r (text_of m lines)) (run_unless r m lines) answer
  on_world r m lines before now answer none h = rw none h

  -- there is one: the text was made, and written
  pub written_on_new : (a : InitializedAlgorithm) (schedule : Scheduled) (m : MonitorState) (text : List ℕ) (ended : Result Verdict (ℕ × RunRefusal)) (before now : Tape)
      (answer : Result Verdict AlgorithmReplayFault) → m ≡ first_monitor a schedule.procs schedule.limit → new_refusal a schedule.procs schedule.limit ≡ None
      → IsRunText text_of m schedule.lines text ended → ((run : AlgorithmRun (ℕ × RunRefusal)) → HasEnd run ended → WritesRunText before now text run answer)
      → WritesRunText before now (text_on_new text_of a schedule) (run_of a schedule.procs schedule.limit schedule.lines) answer
  written_on_new a schedule m text ended before now answer made accepted is writes =
      let run = run_on 2 m schedule.lines in
      on_world (new_refusal a schedule.procs schedule.limit) (first_monitor a schedule.procs schedule.limit) schedule.lines before now answer accepted
      (subst (λ (x : MonitorState). WritesRunText before now (text_of x schedule.lines) (run_on 2 x schedule.lines) answer) made
      (subst (λ (t : List ℕ). WritesRunText before now t run answer) is.0 (writes run is.1)))

  worldless : (r : Option AlgorithmRefusal) (m : MonitorState) (lines : List Line) (t : Tape) → WritesRunText t t (text_unless r (text_of m lines)) (run_unless r m lines) (Err (world_fault r))
  worldless None m lines t = refl
  worldless (Some e) m lines t = (record { taken = sym (append-nil t.taken); fine = refl }, refl)

  -- there is none, and nothing is written
  pub none_written : (a : InitializedAlgorithm) (schedule : Scheduled) (t : Tape) (fault : AlgorithmReplayFault) → fault ≡ world_fault (new_refusal a schedule.procs schedule.limit)
      → WritesRunText t t (text_on_new text_of a schedule) (run_of a schedule.procs schedule.limit schedule.lines) (Err fault)
  none_written a schedule t fault is =
      rw is (worldless (new_refusal a schedule.procs schedule.limit) (first_monitor a schedule.procs schedule.limit) schedule.lines t)
