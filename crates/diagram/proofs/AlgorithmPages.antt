-- The page of an algorithm's run.
use Rattle.std.proofs.Common.{◌≡◌, ℕ, List, [], ◌∷◌, Option, Result, refl, sym, ap, ◌∙◌}
use Rattle.std.specs.List.{flat_map}
use Rattle.diagram.proofs.AlgorithmDrawn.{text_same}
use Rattle.diagram.proofs.AlgorithmEventLists.{kept_again}
use Rattle.diagram.proofs.AlgorithmRowEffects.{run_events}
use Rattle.diagram.proofs.Common.{flat_map-cons, Line}
use Rattle.schedule.specs.Fragments.{itself, run_on as run_by}
use Rattle.schedule.specs.Transitions.{RunEvent}
use Rattle.schedule.specs.declared.replays.verdict.Verdict.{Verdict}
use Rattle.schedule.specs.declared.texts.head.Head.{Head}
use Rattle.algorithms.specs.Worlds.{AlgorithmWorldState}
use Rattle.algorithms.specs.declared.algorithm.Algorithm.{Algorithm}
use Rattle.algorithm_lab.specs.Monitors.{MonitorState}
use Rattle.algorithm_lab.specs.Reports.{verdict_of}
use Rattle.algorithm_lab.specs.Runs.{event_reports, monitor_transitions, run_on}
use Rattle.algorithm_lab.specs.declared.monitor_event.MonitorCrash.{MonitorCrash}
use Rattle.algorithm_lab.specs.declared.monitor_event.MonitorStep.{MonitorStep}
use Rattle.algorithm_lab.specs.declared.run_refusal.RunRefusal.{RunRefusal}
use Rattle.algorithm_lab.specs.declared.run_report.TextReport.{TextReport}
use Rattle.diagram.specs.declared.algorithm.event_list.MonitorEvent.{MonitorEvent}
use Rattle.diagram.specs.declared.algorithm.row.AlgorithmAct.{AlgorithmAct}
use Rattle.diagram.specs.declared.algorithm.row.AlgorithmRow.{AlgorithmRow}
use Rattle.diagram.specs.declared.diagram_layout.Style.TheVariants.{Svg}
use Rattle.diagram.specs.declared.phase.LifelinePhase.{LifelinePhase}
use Rattle.diagram.specs.AlgorithmDrawings.{IsDrawing, algorithm_text, end_by, run_text}
use Rattle.diagram.specs.AlgorithmEventLists.{IsRecording, kept_alone, run_event, shown_event}
use Rattle.diagram.specs.AlgorithmEvents.{drawn_event, drawn_events, event_act, event_phase, event_process}
use Rattle.diagram.specs.AlgorithmPages.{algorithm_page, page_around, with_kept}
use Rattle.diagram.specs.AlgorithmRows.{with_event, with_events}
use Rattle.diagram.specs.AlgorithmSteps.{IsRunText, objects_by_steps}

-- an event is noted by its parts
pub event_noted : (rows : List AlgorithmRow) (event : MonitorEvent) (p : ℕ) (act : AlgorithmAct) (phase : LifelinePhase) (reports : List TextReport) → p ≡ event_process (run_event event)
    → act ≡ event_act (run_event event) → phase ≡ event_phase (run_event event) → reports ≡ event_reports (run_event event)
    → with_event rows (record { p = p; act = act; phase = phase; reports = reports }) ≡ with_event rows (shown_event event)
event_noted rows event p act phase reports process acts phases reported =
    λ i. with_event rows (record { p = process i; act = acts i; phase = phases i; reports = reported i })

-- the rows of events that are kept are those of the events
rows_kept : (rows : List AlgorithmRow) (events : List (RunEvent MonitorStep MonitorCrash)) → with_kept rows (flat_map kept_alone events) ≡ with_events rows (flat_map drawn_events events)
rows_kept rows [] = refl
rows_kept rows (e ∷ es) =
    ap (with_kept rows) (flat_map-cons kept_alone e es)
    ∙ ap (λ (event : RunEvent MonitorStep MonitorCrash). with_kept (with_event rows (drawn_event event)) (flat_map kept_alone es)) (kept_again e)
    ∙ rows_kept (with_event rows (drawn_event e)) es ∙ ap (with_events rows) (sym (flat_map-cons drawn_events e es))

-- the rows of a recording are those of its run's drawing
pub drawing_is : (m left : MonitorState) (lines : List Line) (events : List MonitorEvent) (reports : List TextReport) (refused : Option (ℕ × RunRefusal)) (w : AlgorithmWorldState)
    (rows : List AlgorithmRow) (verdict : Verdict) → IsRecording m left lines events reports refused → w ≡ left.world → rows ≡ with_kept [] events → verdict ≡ verdict_of w.algorithm w.procs reports
    → IsDrawing m lines rows verdict refused left
drawing_is m left lines events reports refused w rows verdict is world drawn ruled =
    let run = run_on 2 m lines in (
      drawn ∙ ap (with_kept []) is.events_are ∙ rows_kept [] (run_by monitor_transitions itself 2 m lines).reports ∙ ap (with_events []) (sym (run_events m lines)),
      is.refused_is,
      is.stands,
      ruled ∙ ap (λ (s : AlgorithmWorldState). verdict_of s.algorithm s.procs reports) (world ∙ ap (λ (s : MonitorState). s.world) is.stands) ∙ ap (verdict_of run.left.world.algorithm run.left.world.procs) is.reports_are,
    )

-- the page was made of its drawing and its lines
pub page_made : (head shown : Head) (m left : MonitorState) (lines : List Line) (rows : List AlgorithmRow) (verdict : Verdict) (refused : Option (ℕ × RunRefusal)) (a : Algorithm)
    (drawing text page : List ℕ) (ended : Result Verdict (ℕ × RunRefusal)) → shown ≡ head → IsDrawing m lines rows verdict refused left → a ≡ left.world.algorithm
    → drawing ≡ algorithm_text Svg shown a rows (end_by refused verdict) → IsRunText objects_by_steps m lines text ended → page ≡ page_around drawing text
    → IsRunText (algorithm_page head) m lines page ended
page_made head shown m left lines rows verdict refused a drawing text page ended named drawn same pictured is put = (
  put ∙ ap (λ (t : List ℕ). page_around t text) (pictured ∙ text_same Svg shown head a m left lines rows verdict refused named drawn same)
      ∙ ap (page_around (run_text Svg head m lines)) is.0,
  is.1,
)
