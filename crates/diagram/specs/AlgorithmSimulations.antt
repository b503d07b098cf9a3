-- The simulation of an algorithm: a world of it with its monitor.
use Rattle.std.specs.Prelude.{◌≡◌, ℕ, List, [], ◌∷◌, ◌++◌, codes, Option, Some, None, refl}
use Rattle.std.specs.List.{flat_map}
use Rattle.schedule.specs.declared.lines.line.Line.{Line}
use Rattle.schedule.specs.Schedules.{Scheduled}
use Rattle.schedule.specs.declared.player.play_stop.PlayStop.{PlayStop}
use Rattle.schedule.specs.declared.player.play_stop.PlayStop.TheVariants.{Refused}
use Rattle.schedule.specs.declared.texts.fault.OutOfMemory.{OutOfMemory}
use Rattle.algorithms.specs.Worlds.{AlgorithmWorldState}
use Rattle.algorithms.specs.declared.algorithm.Algorithm.{Algorithm}
use Rattle.algorithms.specs.declared.first_values.InitializedAlgorithm.{InitializedAlgorithm}
use Rattle.algorithm_lab.proofs.Restarts.{line_leaves}
use Rattle.algorithm_lab.specs.Monitors.{MonitorState, first_monitor, monitor_at_beginning}
use Rattle.algorithm_lab.specs.Refusals.{number_of}
use Rattle.algorithm_lab.specs.Reports.{reports_text}
use Rattle.algorithm_lab.specs.Runs.{AlgorithmRun, line_on, monitor_transitions}
use Rattle.algorithm_lab.specs.declared.run_refusal.RunRefusal.{RunRefusal}
use Rattle.diagram.specs.declared.algorithm.row.AlgorithmAct.{AlgorithmAct}
use Rattle.diagram.specs.declared.algorithm.row.AlgorithmAct.TheVariants.{Crashed}
use Rattle.diagram.specs.declared.algorithm.event_list.MonitorEvent.{MonitorEvent}
use Rattle.diagram.specs.declared.algorithm.remote_marks.MarkedEvent.{MarkedEvent}
use Rattle.diagram.specs.declared.remote_marks.RemoteMarks.{RemoteMarks}
use Rattle.diagram.specs.declared.phase.LifelinePhase.{LifelinePhase}
use Rattle.diagram.specs.AlgorithmEventLists.{shown_event}
use Rattle.diagram.specs.AlgorithmEvents.{AlgorithmEvent, events_of}
use Rattle.diagram.specs.AlgorithmRows.{sign_of}
use Rattle.diagram.specs.AlgorithmStandings.{algorithm_state_text}
use Rattle.diagram.specs.LockSimulations.{most_steps}
use Rattle.diagram.specs.Pictures.{around, class_of}
use Rattle.diagram.specs.AlgorithmMarks.{MarkedAlgorithmEvent, marked_events, shown_marked}
use Rattle.diagram.specs.RemoteMarks.{marks_text}
use Rattle.diagram.specs.Semantics.{Semantics, steps_to_answer}
use Rattle.diagram.specs.Sessions.{SessionState, at_schedule}

-- ---- the steps of a line

-- what is read or written. A crash does neither
abbrev pub access_text : Algorithm → AlgorithmAct → List ℕ
access_text a Crashed = []
access_text a act = 32 ∷ sign_of a act

-- the phase of a process after a step, what it reads or writes, and in which models that is remote
unfoldable pub event_line : Algorithm → ℕ → AlgorithmAct → LifelinePhase → Option RemoteMarks → List ℕ
event_line a p act phase marks = around (codes "at ") p (codes " ") ++ class_of phase ++ access_text a act ++ marks_text marks ++ 10 ∷ []

-- a step or a crash with these marks, and what it reports
abbrev pub marked_text : Algorithm → MarkedAlgorithmEvent → List ℕ
marked_text a marked = event_line a marked.event.p marked.event.act marked.event.phase marked.marks ++ reports_text a marked.event.reports

-- a step or a crash without marks, as a session has it
abbrev pub event_text : Algorithm → AlgorithmEvent → List ℕ
event_text a event = marked_text a (record { event = event; marks = None })

abbrev pub events_text : Algorithm → List AlgorithmEvent → List ℕ
events_text a events = flat_map (event_text a) events

-- all of a run that leaves this world, with their marks
abbrev pub run_text : AlgorithmWorldState → List AlgorithmEvent → List ℕ
run_text w events = flat_map (marked_text w.algorithm) (marked_events w [] events)

-- the same of events that are kept in a list
abbrev pub marked_line : Algorithm → MarkedEvent → List ℕ
marked_line a marked = marked_text a (shown_marked marked)

abbrev pub marked_lines : Algorithm → List MarkedEvent → List ℕ
marked_lines a marked = flat_map (marked_line a) marked

abbrev pub kept_line : Algorithm → MonitorEvent → List ℕ
kept_line a event = event_text a (shown_event event)

abbrev pub kept_lines : Algorithm → List MonitorEvent → List ℕ
kept_lines a events = flat_map (kept_line a) events

-- ---- a line, which may be refused

abbrev pub number_by : Option RunRefusal → Option ℕ
number_by None = None
number_by (Some refusal) = number_of refusal

-- a line that is not played to its end is refused by this number
abbrev pub HasNumber : PlayStop RunRefusal OutOfMemory → ℕ → Type 0
HasNumber (Refused refusal) number = number_of refusal ≡ Some number
HasNumber stop number = ⊥

-- a line of steps that is refused in its midst leaves nothing of the steps before
abbrev pub left_by : MonitorState → AlgorithmRun RunRefusal → Option RunRefusal → MonitorState
left_by m run None = run.left
left_by m run (Some refusal) = m

abbrev pub text_by : Algorithm → List AlgorithmEvent → Option RunRefusal → List ℕ
text_by a events None = events_text a events
text_by a events (Some refusal) = []

-- ---- the whole

abbrev pub algorithm_semantics : Semantics MonitorState
algorithm_semantics =
    record {
      first = λ m head. monitor_at_beginning m;
      refusal = λ m line. number_by (line_on m line).refused;
      after = λ m line. left_by m (line_on m line) (line_on m line).refused;
      steps_text = λ head m line. text_by m.world.algorithm (events_of m line) (line_on m line).refused;
      state_text = λ head m. algorithm_state_text m;
      steps_to_answer = λ schedule m p. steps_to_answer monitor_transitions p 0 most_steps m;
    }

-- a session over an algorithm at a schedule
abbrev pub algorithm_session : InitializedAlgorithm → Scheduled → SessionState MonitorState
algorithm_session a schedule = at_schedule algorithm_semantics (first_monitor a schedule.procs schedule.limit) schedule []

-- ---- a schedule begins in the same state whatever was played before

begins_after_run : (m : MonitorState) (run : AlgorithmRun RunRefusal) (refused : Option RunRefusal) → monitor_at_beginning run.left ≡ monitor_at_beginning m → monitor_at_beginning (left_by m run refused) ≡ monitor_at_beginning m
begins_after_run m run None same = same
begins_after_run m run (Some refusal) same = refl

pub begins_after_line : (m : MonitorState) (line : Line) → monitor_at_beginning (left_by m (line_on m line) (line_on m line).refused) ≡ monitor_at_beginning m
begins_after_line m line = begins_after_run m (line_on m line) (line_on m line).refused (line_leaves m line)
