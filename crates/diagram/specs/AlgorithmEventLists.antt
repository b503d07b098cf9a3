-- The events of an algorithm's run as they are kept in a list, and what is written of each.
use Rattle.std.specs.Prelude.{◌≡◌, ℕ, List, [], ◌∷◌, Option}
use Rattle.std.specs.List.{flat_map}
use Rattle.schedule.specs.declared.lines.line.Line.{Line}
use Rattle.schedule.specs.Fragments.{itself, run_on as run_by}
use Rattle.schedule.specs.Transitions.{RunEvent, Took, Fell}
use Rattle.algorithm_lab.specs.Monitors.{MonitorState}
use Rattle.algorithm_lab.specs.Runs.{event_reports, monitor_transitions, run_on}
use Rattle.algorithm_lab.specs.declared.monitor_event.MonitorCrash.{MonitorCrash}
use Rattle.algorithm_lab.specs.declared.monitor_event.MonitorStep.{MonitorStep}
use Rattle.algorithm_lab.specs.declared.run_refusal.RunRefusal.{RunRefusal}
use Rattle.algorithm_lab.specs.declared.run_report.TextReport.{TextReport}
use Rattle.diagram.specs.declared.algorithm.event_list.MonitorEvent.{MonitorEvent}
use Rattle.diagram.specs.declared.algorithm.event_list.MonitorEvent.TheVariants as kept
use Rattle.diagram.specs.AlgorithmEvents.{AlgorithmEvent, drawn_event}

-- the event that is kept so
abbrev pub run_event : MonitorEvent → RunEvent MonitorStep MonitorCrash
run_event (kept.Took p step) = Took p step
run_event (kept.Fell p crash) = Fell p crash

-- an event, as it is kept
abbrev pub event_kept : RunEvent MonitorStep MonitorCrash → MonitorEvent
event_kept (Took p step) = kept.Took p step
event_kept (Fell p crash) = kept.Fell p crash

abbrev pub kept_alone : RunEvent MonitorStep MonitorCrash → List MonitorEvent
kept_alone event = event_kept event ∷ []

-- what it shows
abbrev pub shown_event : MonitorEvent → AlgorithmEvent
shown_event event = drawn_event (run_event event)

-- what it reports
abbrev pub kept_reports : MonitorEvent → List TextReport
kept_reports event = event_reports (run_event event)

-- the run of these lines has these events, reports this, and leaves this, up to the line that is refused
pub record IsRecording (m left : MonitorState) (lines : List Line) (events : List MonitorEvent) (reports : List TextReport) (refused : Option (ℕ × RunRefusal)) : Type 0 where
  pub stands : left ≡ (run_on 2 m lines).left
  pub events_are : events ≡ flat_map kept_alone (run_by monitor_transitions itself 2 m lines).reports
  pub reports_are : reports ≡ (run_on 2 m lines).reports
  pub refused_is : refused ≡ (run_on 2 m lines).refused
