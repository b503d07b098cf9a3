-- The marks of remote references in a run of the lock.
use Rattle.std.specs.Prelude.{◌≡◌, ℕ, List, [], ◌∷◌, ◌++◌, map, Option, None}
use Rattle.rmecore.specs.declared.happened.Happened.{Happened}
use Rattle.redomail.specs.declared.layout.Layout.{Layout}
use Rattle.algorithms.specs.declared.access.WordAccess.{WordAccess}
use Rattle.algorithms.specs.declared.remote_references.memory_event.MemoryEvent.{MemoryEvent}
use Rattle.algorithms.specs.declared.remote_references.memory_event.MemoryEvent.TheVariants.{Access, Crash}
use Rattle.algorithms.specs.remote_references.CopyRows.{CopyRows, AreCopiesAfter}
use Rattle.passages.specs.LockMemory.{lock_access, lock_address, lock_declarations, lock_home}
use Rattle.diagram.specs.declared.act.DiagramRow.{DiagramRow}
use Rattle.diagram.specs.declared.act.RowAct.{RowAct}
use Rattle.diagram.specs.declared.act.RowAct.TheVariants.{Silent, Telling, Fell}
use Rattle.diagram.specs.declared.remote_marks.RemoteMarks.{RemoteMarks}
use Rattle.diagram.specs.RemoteMarks.{marks_at}

-- ---- what memory sees

-- the access of a step
abbrev pub access_of : Happened → WordAccess
access_of h = lock_access h.kind h.word h.value

-- what memory sees of what p does once
abbrev pub memory_of_act : ℕ → RowAct → MemoryEvent
memory_of_act p (Silent h times) = Access p (access_of h)
memory_of_act p (Telling step) = Access p (access_of step.happened)
memory_of_act p (Fell deed) = Crash p

abbrev pub memory_of_row : DiagramRow → MemoryEvent
memory_of_row row = memory_of_act row.p row.act

-- ---- the marks

-- of a step of p after this run
abbrev pub marks_of_step : Layout → List MemoryEvent → ℕ → Happened → Option RemoteMarks
marks_of_step l run p h = marks_at (lock_declarations l) (lock_home (lock_address h.word)) run p (access_of h)

-- of what p does once. A crash has none
abbrev pub marks_of_act : Layout → List MemoryEvent → ℕ → RowAct → Option RemoteMarks
marks_of_act l run p (Silent h times) = marks_of_step l run p h
marks_of_act l run p (Telling step) = marks_of_step l run p step.happened
marks_of_act l run p (Fell deed) = None

-- of rows that each show one step or crash, in order
abbrev pub marks_of_rows : Layout → List MemoryEvent → List DiagramRow → List (Option RemoteMarks)
marks_of_rows l run [] = []
marks_of_rows l run (row ∷ rows) = marks_of_act l run row.p row.act ∷ marks_of_rows l (run ++ memory_of_row row ∷ []) rows

-- the marks of rows after this run were added, and the copies are those after the rows
pub record MarksRows (l : Layout) (run : List MemoryEvent) (rows : List DiagramRow) (before now : List (Option RemoteMarks)) (copies : CopyRows) : Type 0 where
  pub marks : now ≡ before ++ marks_of_rows l run rows
  pub copies_are : AreCopiesAfter (lock_declarations l) (run ++ map memory_of_row rows) copies
