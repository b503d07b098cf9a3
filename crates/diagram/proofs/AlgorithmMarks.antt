-- The marks of the events of a run that is recorded.
use Rattle.std.proofs.Common.{◌≡◌, ℕ, ◌+◌, ◌<◌, List, [], ◌∷◌, ◌++◌, drop, length, map, take, Option, refl, sym, ap, ◌∙◌, append_assoc, append-nil, get_or, ◌⊎◌, inl, inr}
use Rattle.std.specs.List.{flat_map}
use Rattle.diagram.proofs.AlgorithmEventLists.{kept_again}
use Rattle.diagram.proofs.AlgorithmRowEffects.{run_events}
use Rattle.diagram.proofs.Common.{flat_map-append, flat_map-cons, Line, drop_more, take_more}
use Rattle.schedule.specs.Fragments.{itself, run_on as run_by}
use Rattle.schedule.specs.Transitions.{RunEvent}
use Rattle.algorithms.specs.Worlds.{AlgorithmWorldState}
use Rattle.algorithms.specs.declared.remote_references.memory_event.MemoryEvent.{MemoryEvent}
use Rattle.algorithm_lab.specs.Monitors.{MonitorState}
use Rattle.algorithm_lab.specs.Runs.{monitor_transitions}
use Rattle.algorithm_lab.specs.declared.monitor_event.MonitorCrash.{MonitorCrash}
use Rattle.algorithm_lab.specs.declared.monitor_event.MonitorStep.{MonitorStep}
use Rattle.algorithm_lab.specs.declared.run_refusal.RunRefusal.{RunRefusal}
use Rattle.algorithm_lab.specs.declared.run_report.TextReport.{TextReport}
use Rattle.diagram.specs.declared.algorithm.event_list.MonitorEvent.{MonitorEvent}
use Rattle.diagram.specs.declared.algorithm.remote_marks.MarkedEvent.{MarkedEvent}
use Rattle.diagram.specs.AlgorithmEventLists.{IsRecording, kept_alone}
use Rattle.diagram.specs.AlgorithmEvents.{drawn_event, drawn_events, events_on}
use Rattle.diagram.specs.AlgorithmSimulations.{marked_line, marked_lines, marked_text, run_text}
use Rattle.diagram.specs.AlgorithmMarks.{MarkedAlgorithmEvent, all_memory_kept, mark_kept, marked_event, marked_events, marks_kept, memory_kept, memory_seen, shown_marked, marks_if_declared, marks_of}
use Rattle.algorithms.specs.declared.access.WordAccess.{WordAccess}
use Rattle.algorithms.specs.declared.algorithm.Algorithm.{Algorithm}
use Rattle.algorithms.specs.declared.remote_references.memory_event.MemoryEvent.TheVariants.{Access}
use Rattle.diagram.specs.declared.algorithm.row.AlgorithmAct.{AlgorithmAct}
use Rattle.diagram.specs.declared.algorithm.row.AlgorithmAct.TheVariants.{Took, Blocked}

-- ---- an access

-- what is done is an access
abbrev pub IsAccess : AlgorithmAct → WordAccess → Type 0
IsAccess act access = ((x : ℕ) × (act ≡ Took access x)) ⊎ ((x : ℕ) × (y : ℕ) × (act ≡ Blocked access x y))

pub memory_of_access : (p : ℕ) (act : AlgorithmAct) (access : WordAccess) → IsAccess act access → memory_seen p act ≡ Access p access ∷ []
memory_of_access p act access (inl is) = ap (memory_seen p) is.1
memory_of_access p act access (inr is) = ap (memory_seen p) is.2

pub marks_of_same : (w : AlgorithmWorldState) (run : List MemoryEvent) (p : ℕ) (act : AlgorithmAct) (access : WordAccess) → IsAccess act access → marks_of w run p act ≡ marks_if_declared w run p access
marks_of_same w run p act access (inl is) = ap (marks_of w run p) is.1
marks_of_same w run p act access (inr is) = ap (marks_of w run p) is.2

-- ---- the marks of a list of events

abbrev first_kept : AlgorithmWorldState → List MemoryEvent → List (RunEvent MonitorStep MonitorCrash) → RunEvent MonitorStep MonitorCrash → List MarkedAlgorithmEvent
first_kept w run es e =
    marked_event w run (drawn_event e) ∷ map shown_marked (marks_kept w (run ++ memory_seen (drawn_event e).p (drawn_event e).act) (flat_map kept_alone es))

marks_same : (w : AlgorithmWorldState) (run : List MemoryEvent) (events : List (RunEvent MonitorStep MonitorCrash))
    → map shown_marked (marks_kept w run (flat_map kept_alone events)) ≡ marked_events w run (flat_map drawn_events events)
marks_same w run [] = refl
marks_same w run (e ∷ es) =
    ap (λ (events : List MonitorEvent). map shown_marked (marks_kept w run events)) (flat_map-cons kept_alone e es) ∙ ap (first_kept w run es) (kept_again e)
    ∙ ap (λ (marked : List MarkedAlgorithmEvent). marked_event w run (drawn_event e) ∷ marked) (marks_same w (run ++ memory_seen (drawn_event e).p (drawn_event e).act) es)
    ∙ ap (marked_events w run) (sym (flat_map-cons drawn_events e es))

-- the marks of a run that is recorded
pub marks_of_run : (w : AlgorithmWorldState) (m left : MonitorState) (lines : List Line) (events : List MonitorEvent) (reports : List TextReport) (refused : Option (ℕ × RunRefusal))
    → IsRecording m left lines events reports refused → map shown_marked (marks_kept w [] events) ≡ marked_events w [] (events_on m lines)
marks_of_run w m left lines events reports refused is =
    ap (λ (es : List MonitorEvent). map shown_marked (marks_kept w [] es)) is.events_are ∙ marks_same w [] (run_by monitor_transitions itself 2 m lines).reports
    ∙ ap (marked_events w []) (sym (run_events m lines))

lines_shown : (a : Algorithm) (marked : List MarkedEvent) → marked_lines a marked ≡ flat_map (marked_text a) (map shown_marked marked)
lines_shown a [] = refl
lines_shown a (m ∷ ms) =
    flat_map-cons (marked_line a) m ms ∙ ap (λ (text : List ℕ). marked_line a m ++ text) (lines_shown a ms) ∙ sym (flat_map-cons (marked_text a) (shown_marked m) (map shown_marked ms))

-- its steps in words
pub lines_of_run : (w : AlgorithmWorldState) (m left : MonitorState) (lines : List Line) (events : List MonitorEvent) (reports : List TextReport) (refused : Option (ℕ × RunRefusal))
    → IsRecording m left lines events reports refused → marked_lines w.algorithm (marks_kept w [] events) ≡ run_text w (events_on m lines)
lines_of_run w m left lines events reports refused is =
    lines_shown w.algorithm (marks_kept w [] events) ∙ ap (flat_map (marked_text w.algorithm)) (marks_of_run w m left lines events reports refused is)

-- ---- one event more

-- what is left is marked after the events that were
abbrev pub IsMarkedSoFar : AlgorithmWorldState → List MonitorEvent → ℕ → List MarkedEvent → Type 0
IsMarkedSoFar w events i marked = marked ++ marks_kept w (all_memory_kept (take i events)) (drop i events) ≡ marks_kept w [] events

pub memory_more : (events : List MonitorEvent) (i : ℕ) (d : MonitorEvent) → i < length events
    → all_memory_kept (take (i + 1) events) ≡ all_memory_kept (take i events) ++ memory_kept (get_or events i d)
memory_more events i d low =
    let e = get_or events i d in
    ap all_memory_kept (take_more events i d low) ∙ flat_map-append memory_kept (take i events) (e ∷ [])
    ∙ ap (λ (seen : List MemoryEvent). all_memory_kept (take i events) ++ seen) (append-nil (memory_kept e))

pub marked_more : (w : AlgorithmWorldState) (events : List MonitorEvent) (i : ℕ) (d : MonitorEvent) (marked next : List MarkedEvent) (event : MarkedEvent) → i < length events
    → event ≡ mark_kept w (all_memory_kept (take i events)) (get_or events i d) → next ≡ marked ++ event ∷ [] → IsMarkedSoFar w events i marked → IsMarkedSoFar w events (i + 1) next
marked_more w events i d marked next event low marks put before =
    let e = get_or events i d in
    let seen = all_memory_kept (take i events) in
    ap (λ (now : List MarkedEvent). now ++ marks_kept w (all_memory_kept (take (i + 1) events)) (drop (i + 1) events)) (put ∙ ap (λ (m : MarkedEvent). marked ++ m ∷ []) marks)
    ∙ append_assoc marked (mark_kept w seen e ∷ []) (marks_kept w (all_memory_kept (take (i + 1) events)) (drop (i + 1) events))
    ∙ ap (λ (now : List MemoryEvent). marked ++ mark_kept w seen e ∷ marks_kept w now (drop (i + 1) events)) (memory_more events i d low)
    ∙ ap (λ (es : List MonitorEvent). marked ++ marks_kept w seen es) (sym (drop_more events i d low)) ∙ before
