-- A list that has heard the events of an algorithm's run, and what is written of it.
use Rattle.std.proofs.Common.{◌≡◌, ℕ, List, [], ◌∷◌, ◌++◌, Option, refl, sym, ap, ◌∙◌}
use Rattle.std.specs.List.{flat_map}
use Rattle.diagram.proofs.Common.{flat_map-cons, Line}
use Rattle.schedule.proofs.Fragments.{line_reported, run_reported}
use Rattle.schedule.specs.Effects.{HearsAll}
use Rattle.schedule.specs.Fragments.{itself, line_on as line_by, run_on as run_by}
use Rattle.schedule.specs.Plays.{PlaysAll}
use Rattle.schedule.specs.Transitions.{RunEvent, Took, Fell}
use Rattle.algorithms.specs.declared.algorithm.Algorithm.{Algorithm}
use Rattle.algorithm_lab.proofs.Runs.{all_appended}
use Rattle.algorithm_lab.specs.Monitors.{MonitorState}
use Rattle.algorithm_lab.specs.Reports.{reports_text}
use Rattle.algorithm_lab.specs.Runs.{AlgorithmRun, event_reports, line_on, monitor_transitions}
use Rattle.algorithm_lab.specs.declared.monitor_event.MonitorCrash.{MonitorCrash}
use Rattle.algorithm_lab.specs.declared.monitor_event.MonitorStep.{MonitorStep}
use Rattle.algorithm_lab.specs.declared.run_refusal.RunRefusal.{RunRefusal}
use Rattle.algorithm_lab.specs.declared.run_report.TextReport.{TextReport}
use Rattle.diagram.specs.declared.algorithm.event_list.EventList.{EventList}
use Rattle.diagram.specs.declared.algorithm.event_list.MonitorEvent.{MonitorEvent}
use Rattle.diagram.specs.declared.algorithm.remote_marks.MarkedEvent.{MarkedEvent}
use Rattle.diagram.specs.declared.algorithm.row.AlgorithmAct.{AlgorithmAct}
use Rattle.diagram.specs.declared.phase.LifelinePhase.{LifelinePhase}
use Rattle.diagram.proofs.AlgorithmRowEffects.{line_events}
use Rattle.diagram.specs.AlgorithmEventEffects.{event_list_effects}
use Rattle.diagram.specs.AlgorithmEventLists.{IsRecording, event_kept, kept_alone, kept_reports, run_event}
use Rattle.diagram.specs.AlgorithmEvents.{drawn_event, drawn_events, event_act, event_phase, event_process, events_of}
use Rattle.diagram.specs.AlgorithmSimulations.{event_line, event_text, events_text, kept_line, kept_lines, marked_line}

abbrev MonitorEvents : Type 0
MonitorEvents = List (RunEvent MonitorStep MonitorCrash)

-- an event is written by its parts
pub event_written : (a : Algorithm) (marked : MarkedEvent) (p : ℕ) (act : AlgorithmAct) (phase : LifelinePhase) (reports : List TextReport) → p ≡ event_process (run_event marked.event)
    → act ≡ event_act (run_event marked.event) → phase ≡ event_phase (run_event marked.event) → reports ≡ event_reports (run_event marked.event)
    → event_line a p act phase marked.marks ++ reports_text a reports ≡ marked_line a marked
event_written a marked p act phase reports process acts phases reported = rw (process, acts, phases, reported) refl

-- ---- the events of a list

list_after : (first now : EventList) (events : MonitorEvents) → HearsAll event_list_effects.hears first events now → now.events.items ≡ first.events.items ++ flat_map kept_alone events
list_after first now events all = all_appended event_list_effects.hears (λ (list : EventList). list.events.items) kept_alone (λ before event next hears. hears) first now events all

-- what is made of each event that is kept is made of each event
module _ {X : Type 0} (f : MonitorEvent → List X) (g : RunEvent MonitorStep MonitorCrash → List X) (same : (event : RunEvent MonitorStep MonitorCrash) → f (event_kept event) ≡ g event) where
  kept_same : (events : MonitorEvents) → flat_map f (flat_map kept_alone events) ≡ flat_map g events
  kept_same [] = refl
  kept_same (e ∷ es) =
      ap (flat_map f) (flat_map-cons kept_alone e es) ∙ flat_map-cons f (event_kept e) (flat_map kept_alone es) ∙ ap (λ (xs : List X). xs ++ flat_map f (flat_map kept_alone es)) (same e)
      ∙ ap (λ (xs : List X). g e ++ xs) (kept_same es) ∙ sym (flat_map-cons g e es)

-- an event that was kept is that event
pub kept_again : (event : RunEvent MonitorStep MonitorCrash) → run_event (event_kept event) ≡ event
kept_again (Took p step) = refl
kept_again (Fell p crash) = refl

drawn_lines : (a : Algorithm) (events : MonitorEvents) → flat_map (λ event. event_text a (drawn_event event)) events ≡ events_text a (flat_map drawn_events events)
drawn_lines a [] = refl
drawn_lines a (e ∷ es) =
    flat_map-cons (λ (event : RunEvent MonitorStep MonitorCrash). event_text a (drawn_event event)) e es ∙ ap (λ (text : List ℕ). event_text a (drawn_event e) ++ text) (drawn_lines a es)
    ∙ sym (flat_map-cons (event_text a) (drawn_event e) (flat_map drawn_events es)) ∙ ap (events_text a) (sym (flat_map-cons drawn_events e es))

lines_kept : (a : Algorithm) (events : MonitorEvents) → kept_lines a (flat_map kept_alone events) ≡ events_text a (flat_map drawn_events events)
lines_kept a events =
    kept_same (kept_line a) (λ (event : RunEvent MonitorStep MonitorCrash). event_text a (drawn_event event)) (λ (event : RunEvent MonitorStep MonitorCrash). ap (λ (e : RunEvent MonitorStep MonitorCrash). event_text a (drawn_event e)) (kept_again event)) events
    ∙ drawn_lines a events

reports_kept : (events : MonitorEvents) → flat_map kept_reports (flat_map kept_alone events) ≡ flat_map event_reports events
reports_kept events = kept_same kept_reports event_reports (λ (event : RunEvent MonitorStep MonitorCrash). ap event_reports (kept_again event)) events

-- ---- a line, and a run

-- the events of a line that was played are in the list
pub record IsLineHeard (a : Algorithm) (m left : MonitorState) (line : Line) (list : EventList) (refused : Option RunRefusal) : Type 0 where
  pub stands : left ≡ (line_on m line).left
  pub refused_is : (line_on m line).refused ≡ refused
  pub lines : kept_lines a list.events.items ≡ events_text a (events_of m line)

pub hears_line : (a : Algorithm) (first now : EventList) (m : MonitorState) (line : Line) (left : MonitorState) (refused : Option RunRefusal)
    → PlaysAll event_list_effects first now (line_by monitor_transitions itself m line) left refused → first.events.items ≡ [] → IsLineHeard a m left line now refused
hears_line a first now m line left refused plays none =
    let is = line_reported monitor_transitions event_reports m line in
    let events = (line_by monitor_transitions itself m line).reports in
    record {
      stands = plays.stands ∙ ap (λ (run : AlgorithmRun RunRefusal). run.left) (sym is);
      refused_is = ap (λ (run : AlgorithmRun RunRefusal). run.refused) is ∙ plays.refused_is;
      lines =
          ap (kept_lines a) (list_after first now events plays.hears ∙ ap (λ (es : List MonitorEvent). es ++ flat_map kept_alone events) none) ∙ lines_kept a events
          ∙ ap (events_text a) (sym (line_events m line));
    }

-- a run that was played is recorded
pub run_recorded : (first now : EventList) (m : MonitorState) (lines : List Line) (left : MonitorState) (refused : Option (ℕ × RunRefusal)) (reports : List TextReport)
    → PlaysAll event_list_effects first now (run_by monitor_transitions itself 2 m lines) left refused → first.events.items ≡ []
    → reports ≡ flat_map kept_reports now.events.items → IsRecording m left lines now.events.items reports refused
run_recorded first now m lines left refused reports plays none reported =
    let is = run_reported monitor_transitions event_reports 2 m lines in
    let events = (run_by monitor_transitions itself 2 m lines).reports in
    let kept : now.events.items ≡ flat_map kept_alone events =
    list_after first now events plays.hears ∙ ap (λ (es : List MonitorEvent). es ++ flat_map kept_alone events) none in
    record {
      stands = plays.stands ∙ ap (λ (run : AlgorithmRun (ℕ × RunRefusal)). run.left) (sym is);
      events_are = kept;
      reports_are = reported ∙ ap (flat_map kept_reports) kept ∙ reports_kept events ∙ ap (λ (run : AlgorithmRun (ℕ × RunRefusal)). run.reports) (sym is);
      refused_is = sym (ap (λ (run : AlgorithmRun (ℕ × RunRefusal)). run.refused) is ∙ plays.refused_is);
    }
