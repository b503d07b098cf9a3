-- The marks of remote references in a run of an algorithm.
use Rattle.std.specs.Prelude.{ℕ, List, [], ◌∷◌, ◌++◌, length, Option, None}
use Rattle.std.specs.List.{flat_map}
use Rattle.algorithms.specs.Homes.{home_of}
use Rattle.algorithms.specs.Worlds.{AlgorithmWorldState}
use Rattle.algorithms.specs.declared.access.WordAccess.{WordAccess}
use Rattle.algorithms.specs.declared.remote_references.memory_event.MemoryEvent.{MemoryEvent}
use Rattle.algorithms.specs.declared.remote_references.memory_event.MemoryEvent.TheVariants.{Access, Crash}
use Rattle.diagram.specs.declared.algorithm.event_list.MonitorEvent.{MonitorEvent}
use Rattle.diagram.specs.declared.algorithm.remote_marks.MarkedEvent.{MarkedEvent}
use Rattle.diagram.specs.declared.algorithm.row.AlgorithmAct.{AlgorithmAct}
use Rattle.diagram.specs.declared.algorithm.row.AlgorithmAct.TheVariants.{Took, Blocked, Crashed}
use Rattle.diagram.specs.declared.remote_marks.RemoteMarks.{RemoteMarks}
use Rattle.diagram.specs.AlgorithmEventLists.{shown_event}
use Rattle.diagram.specs.AlgorithmEvents.{AlgorithmEvent}
use Rattle.diagram.specs.RemoteMarks.{marks_at}

-- what memory sees of what a process does
abbrev pub memory_seen : ℕ → AlgorithmAct → List MemoryEvent
memory_seen p (Took access value) = Access p access ∷ []
memory_seen p (Blocked access value times) = Access p access ∷ []
memory_seen p Crashed = Crash p ∷ []
memory_seen p act = []

-- the marks of p's access after this run, in a world of this text and these sizes
abbrev pub marks_if_declared : AlgorithmWorldState → List MemoryEvent → ℕ → WordAccess → Option RemoteMarks
marks_if_declared w run p access =
    marks_at (length w.algorithm.declarations.items) (home_of w.algorithm w.procs w.limit access.address) run p access

-- the marks of what p does. A blocked reading is an access
abbrev pub marks_of : AlgorithmWorldState → List MemoryEvent → ℕ → AlgorithmAct → Option RemoteMarks
marks_of w run p (Took access value) = marks_if_declared w run p access
marks_of w run p (Blocked access value times) = marks_if_declared w run p access
marks_of w run p act = None

-- ---- events with their marks

pub record MarkedAlgorithmEvent : Type 0 where
  pub event : AlgorithmEvent
  pub marks : Option RemoteMarks

-- an event after a run
abbrev pub marked_event : AlgorithmWorldState → List MemoryEvent → AlgorithmEvent → MarkedAlgorithmEvent
marked_event w run e = record { event = e; marks = marks_of w run e.p e.act }

-- events after a run
abbrev pub marked_events : AlgorithmWorldState → List MemoryEvent → List AlgorithmEvent → List MarkedAlgorithmEvent
marked_events w run [] = []
marked_events w run (e ∷ es) = marked_event w run e ∷ marked_events w (run ++ memory_seen e.p e.act) es

-- the same of events that are kept in a list
abbrev pub memory_kept : MonitorEvent → List MemoryEvent
memory_kept e = memory_seen (shown_event e).p (shown_event e).act

abbrev pub mark_kept : AlgorithmWorldState → List MemoryEvent → MonitorEvent → MarkedEvent
mark_kept w run e = record { event = e; marks = marks_of w run (shown_event e).p (shown_event e).act }

abbrev pub marks_kept : AlgorithmWorldState → List MemoryEvent → List MonitorEvent → List MarkedEvent
marks_kept w run [] = []
marks_kept w run (e ∷ es) = mark_kept w run e ∷ marks_kept w (run ++ memory_kept e) es

-- what memory sees of them
abbrev pub all_memory_kept : List MonitorEvent → List MemoryEvent
all_memory_kept events = flat_map memory_kept events

abbrev pub shown_marked : MarkedEvent → MarkedAlgorithmEvent
shown_marked marked = record { event = shown_event marked.event; marks = marked.marks }
