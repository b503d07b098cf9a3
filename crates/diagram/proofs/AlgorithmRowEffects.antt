-- The rows that hear the events of an algorithm's run.
use Rattle.std.proofs.Common.{◌≡◌, ℕ, List, [], ◌∷◌, ◌++◌, Option, sym, ap, ◌∙◌, drop, length}
use Rattle.std.proofs.Math.Seq.{drop-append_seam}
use Rattle.std.specs.List.{flat_map}
use Rattle.diagram.proofs.Common.{flat_map-cons, Line}
use Rattle.schedule.proofs.Fragments.{line_reported, run_reported}
use Rattle.schedule.specs.Effects.{HearsAll}
use Rattle.schedule.specs.Fragments.{Fragment, itself, line_on as line_by, run_on as run_by}
use Rattle.schedule.specs.Plays.{PlaysAll}
use Rattle.schedule.specs.Transitions.{RunEvent}
use Rattle.algorithm_lab.specs.Monitors.{MonitorState}
use Rattle.schedule.specs.declared.replays.verdict.Verdict.{Verdict}
use Rattle.algorithm_lab.specs.Reports.{verdict_of}
use Rattle.algorithm_lab.specs.Runs.{AlgorithmRun, event_reports, monitor_transitions, run_on}
use Rattle.algorithm_lab.specs.declared.monitor_event.MonitorCrash.{MonitorCrash}
use Rattle.algorithm_lab.specs.declared.monitor_event.MonitorStep.{MonitorStep}
use Rattle.algorithm_lab.specs.declared.run_refusal.RunRefusal.{RunRefusal}
use Rattle.algorithm_lab.specs.declared.run_report.TextReport.{TextReport}
use Rattle.algorithm_lab.proofs.Runs.{all_appended}
use Rattle.diagram.specs.declared.algorithm.row.AlgorithmAct.{AlgorithmAct}
use Rattle.diagram.specs.declared.algorithm.row.AlgorithmRow.{AlgorithmRow}
use Rattle.diagram.specs.declared.algorithm.row_collector.AlgorithmRows.{AlgorithmRows}
use Rattle.diagram.specs.declared.phase.LifelinePhase.{LifelinePhase}
use Rattle.diagram.specs.AlgorithmDrawings.{IsDrawing}
use Rattle.diagram.specs.AlgorithmEvents.{AlgorithmEvent, drawn_event, drawn_events, event_act, event_phase, event_process, events_of, events_on}
use Rattle.diagram.specs.AlgorithmRowEffects.{TakesEvent, algorithm_row_effects}
use Rattle.diagram.specs.AlgorithmRows.{with_event, with_events}

abbrev MonitorEvents : Type 0
MonitorEvents = List (RunEvent MonitorStep MonitorCrash)

-- an event that has reported so is taken
pub takes_event : (before mid now : AlgorithmRows) (event : RunEvent MonitorStep MonitorCrash) (act : AlgorithmAct) (phase : LifelinePhase) (from : ℕ) → mid.rows.items ≡ before.rows.items
    → mid.reports.items ≡ before.reports.items ++ event_reports event → from ≡ length before.reports.items → act ≡ event_act event → phase ≡ event_phase event
    → now.rows.items ≡ with_event mid.rows.items (record { p = event_process event; act = act; phase = phase; reports = drop from mid.reports.items }) → now.reports.items ≡ mid.reports.items
    → TakesEvent before (drawn_event event) now
takes_event before mid now event act phase from rows wrote start acts phases took same_reports =
    let said : drop from mid.reports.items ≡ event_reports event =
    ap (λ (n : ℕ). drop n mid.reports.items) start ∙ ap (drop (length before.reports.items)) wrote ∙ drop-append_seam before.reports.items (event_reports event) in
    record {
      rows = took ∙ (λ i. with_event (rows i) (record { p = event_process event; act = acts i; phase = phases i; reports = said i }));
      reports = same_reports ∙ wrote;
    }

rows_heard : (first now : AlgorithmRows) (events : MonitorEvents) → HearsAll algorithm_row_effects.hears first events now → now.rows.items ≡ with_events first.rows.items (flat_map drawn_events events)
rows_heard first now [] same = ap (λ (rows : AlgorithmRows). rows.rows.items) same
rows_heard first now (event ∷ events) all =
    rows_heard all.0 now events all.2 ∙ ap (λ (rows : List AlgorithmRow). with_events rows (flat_map drawn_events events)) all.1.rows
    ∙ ap (with_events first.rows.items) (sym (flat_map-cons drawn_events event events))

reports_heard : (first now : AlgorithmRows) (events : MonitorEvents) → HearsAll algorithm_row_effects.hears first events now → now.reports.items ≡ first.reports.items ++ flat_map event_reports events
reports_heard first now events all = all_appended algorithm_row_effects.hears (λ (rows : AlgorithmRows). rows.reports.items) event_reports (λ before next event hears. hears.reports) first now events all

-- the events of a line or a run, and what they report, are those of the same events
pub line_events : (m : MonitorState) (line : Line) → events_of m line ≡ flat_map drawn_events (line_by monitor_transitions itself m line).reports
line_events m line = ap (λ (part : Fragment AlgorithmEvent MonitorState RunRefusal). part.reports) (line_reported monitor_transitions drawn_events m line)

pub run_events : (m : MonitorState) (lines : List Line) → events_on m lines ≡ flat_map drawn_events (run_by monitor_transitions itself 2 m lines).reports
run_events m lines = ap (λ (part : Fragment AlgorithmEvent MonitorState (ℕ × RunRefusal)). part.reports) (run_reported monitor_transitions drawn_events 2 m lines)

-- the lines of a schedule were played, and drawn
pub draws_run : (first now : AlgorithmRows) (m : MonitorState) (lines : List Line) (left : MonitorState) (refused : Option (ℕ × RunRefusal)) (verdict : Verdict) → first.rows.items ≡ [] → first.reports.items ≡ []
    → PlaysAll algorithm_row_effects first now (run_by monitor_transitions itself 2 m lines) left refused → verdict ≡ verdict_of left.world.algorithm left.world.procs now.reports.items → IsDrawing m lines now.rows.items verdict refused left
draws_run first now m lines left refused verdict no_rows no_reports plays ruled =
    let is = run_reported monitor_transitions event_reports 2 m lines in
    let stands : left ≡ (run_on 2 m lines).left = plays.stands ∙ ap (λ (run : AlgorithmRun (ℕ × RunRefusal)). run.left) (sym is) in
    let reports : now.reports.items ≡ (run_on 2 m lines).reports =
    reports_heard first now _ plays.hears ∙ ap (λ (ts : List TextReport). ts ++ flat_map event_reports (run_by monitor_transitions itself 2 m lines).reports) no_reports
    ∙ ap (λ (run : AlgorithmRun (ℕ × RunRefusal)). run.reports) (sym is) in (
      rows_heard first now _ plays.hears ∙ ap (λ (rows : List AlgorithmRow). with_events rows (flat_map drawn_events (run_by monitor_transitions itself 2 m lines).reports)) no_rows
          ∙ ap (with_events []) (sym (run_events m lines)),
      sym (ap (λ (run : AlgorithmRun (ℕ × RunRefusal)). run.refused) is ∙ plays.refused_is),
      stands,
      ruled ∙ ap (λ (s : MonitorState). verdict_of s.world.algorithm s.world.procs now.reports.items) stands ∙ ap (verdict_of (run_on 2 m lines).left.world.algorithm (run_on 2 m lines).left.world.procs) reports,
    )
