use Rattle.std.proofs.Common.{◌∷◌, ◌++◌, [], subst}
use Rattle.algorithms.specs.declared.remote_references.memory_event.MemoryEvent.{MemoryEvent}
use Rattle.algorithms.specs.remote_references.CopyRows.{AreCopiesAfter}
use Rattle.passages.specs.LockMemory.{lock_declarations}
use Rattle.diagram.proofs.lock_marks.mark_act.Goals as goal

pub returns-clause-marked : goal.returns-clause-marked
returns-clause-marked c = λ run copies. c.marks_of_act-marks.ensures run copies

pub returns-clause-copies : goal.returns-clause-copies
returns-clause-copies c = λ run copies.
    let many = lock_declarations c.args.layout.now in
    subst (λ (event : MemoryEvent). AreCopiesAfter many (run ++ event ∷ []) c.note.new.self) c.memory_of_act.ensures (c.note.ensures many run copies)
