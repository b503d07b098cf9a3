use Rattle.std.proofs.Common.{◌++◌, List, ap, sym, subst, append-nil}
use Rattle.algorithms.specs.declared.remote_references.memory_event.MemoryEvent.{MemoryEvent}
use Rattle.algorithms.specs.remote_references.CopyRows.{AreCopiesAfter}
use Rattle.diagram.proofs.AlgorithmMarks.{memory_of_access}
use Rattle.diagram.proofs.algorithm.remote_marks.note_act.Goals as goal

pub returns-in-Further : goal.returns-in-Further
returns-in-Further c = λ declarations run copies.
    rw c.in-Further.is (subst (λ events. AreCopiesAfter declarations events c.args.copies.now) (sym (append-nil run)) copies)

pub returns-in-Took : goal.returns-in-Took
returns-in-Took c = λ declarations run copies.
    subst (λ (seen : List MemoryEvent). AreCopiesAfter declarations (run ++ seen) c.note-in-Took.new.self) (sym (memory_of_access c.args.p c.args.act c.in-Took.access c.in-Took.is))
    (c.note-in-Took.ensures declarations run copies)

pub returns-in-Crashed : goal.returns-in-Crashed
returns-in-Crashed c = λ declarations run copies. rw c.in-Crashed.is (c.note.ensures declarations run copies)
