-- The events of a run of an algorithm: each step with its access, and each crash, with what it reports and the phase of its
-- process after it.
use Rattle.std.specs.Prelude.{ℕ, if◌then◌else◌, List, [], ◌∷◌}
use Rattle.rmecore.specs.declared.phase.Phase.{Phase}
use Rattle.rmecore.specs.declared.phase.Phase.TheVariants as phases
use Rattle.schedule.specs.declared.lines.line.Line.{Line}
use Rattle.schedule.specs.Fragments.{line_on as line_by, run_on as run_by}
use Rattle.schedule.specs.Transitions.{RunEvent}
use Rattle.schedule.specs.Transitions as events
use Rattle.algorithms.specs.declared.access.Advanced.{Advanced}
use Rattle.algorithm_lab.specs.Heard.{deeds_heard}
use Rattle.algorithm_lab.specs.Monitors.{MonitorState}
use Rattle.algorithm_lab.specs.Runs.{event_reports, monitor_transitions}
use Rattle.algorithm_lab.specs.declared.monitor_event.MonitorCrash.{MonitorCrash}
use Rattle.algorithm_lab.specs.declared.monitor_event.MonitorStep.{MonitorStep}
use Rattle.algorithm_lab.specs.declared.run_report.TextReport.{TextReport}
use Rattle.diagram.specs.declared.algorithm.row.AlgorithmAct.{AlgorithmAct}
use Rattle.diagram.specs.declared.algorithm.row.AlgorithmAct.TheVariants.{Took, Blocked, Crashed}
use Rattle.diagram.specs.declared.phase.LifelinePhase.{LifelinePhase}
use Rattle.diagram.specs.declared.phase.LifelinePhase.TheVariants.{Rest, Doorway, Waiting, Section, Dead}

-- a step of a process, or its crash
pub record AlgorithmEvent : Type 0 where
  pub p : ℕ
  pub act : AlgorithmAct
  pub phase : LifelinePhase
  pub reports : List TextReport

-- a step, as it is drawn
abbrev pub act_of : Advanced → AlgorithmAct
act_of a = if a.blocked then Blocked a.access a.value 1 else Took a.access a.value

-- the phase of a process by the deeds of it that are heard. One that has died inside is dead until it enters again
abbrev pub lifeline_phase : Phase → LifelinePhase
lifeline_phase phases.Out = Rest
lifeline_phase phases.Door = Doorway
lifeline_phase phases.Ready = Waiting
lifeline_phase phases.Inside = Section
lifeline_phase phases.DeadIn = Dead

abbrev pub event_process : RunEvent MonitorStep MonitorCrash → ℕ
event_process (events.Took p step) = p
event_process (events.Fell p crash) = p

abbrev pub event_act : RunEvent MonitorStep MonitorCrash → AlgorithmAct
event_act (events.Took p step) = act_of step.advanced
event_act (events.Fell p crash) = Crashed

abbrev pub event_phase : RunEvent MonitorStep MonitorCrash → LifelinePhase
event_phase (events.Took p step) = lifeline_phase (deeds_heard step.promises p step.phase step.advanced.noted).phase
event_phase (events.Fell p crash) = Dead

-- what an event of a run shows
abbrev pub drawn_event : RunEvent MonitorStep MonitorCrash → AlgorithmEvent
drawn_event event = record { p = event_process event; act = event_act event; phase = event_phase event; reports = event_reports event }

abbrev pub drawn_events : RunEvent MonitorStep MonitorCrash → List AlgorithmEvent
drawn_events event = drawn_event event ∷ []

-- the events of one line. A start has none
abbrev pub events_of : MonitorState → Line → List AlgorithmEvent
events_of m line = (line_by monitor_transitions drawn_events m line).reports

-- the events of lines, up to the one that is refused
abbrev pub events_on : MonitorState → List Line → List AlgorithmEvent
events_on m lines = (run_by monitor_transitions drawn_events 2 m lines).reports
