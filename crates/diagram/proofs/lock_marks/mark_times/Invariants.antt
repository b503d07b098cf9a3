use Rattle.std.proofs.Common.{List}
use Rattle.algorithms.specs.declared.remote_references.memory_event.MemoryEvent.{MemoryEvent}
use Rattle.algorithms.specs.remote_references.CopyRows.{AreCopiesAfter}
use Rattle.passages.specs.LockMemory.{lock_declarations}
use Rattle.diagram.specs.LockMarks.{MarksRows}
use Rattle.diagram.proofs.Common.{replicate}
use Rattle.diagram.proofs.lock_marks.mark_times.Given as goal

abbrev pub invariant-loop : goal.invariant-loop
invariant-loop l =
    (run : List MemoryEvent) → AreCopiesAfter (lock_declarations l.layout) run l.fn.copies
    → MarksRows l.layout run (replicate l.counter l.row) l.fn.marks.items l.marks.items l.copies
