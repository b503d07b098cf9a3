use Rattle.std.proofs.Common.{◌++◌, List, ap, ap₂, subst, ◌∙◌}
use Rattle.algorithms.specs.declared.remote_references.memory_event.MemoryEvent.{MemoryEvent}
use Rattle.algorithms.specs.remote_references.CopyRows.{AreCopiesAfter}
use Rattle.diagram.specs.AlgorithmMarks.{marks_of, memory_seen}
use Rattle.diagram.specs.declared.algorithm.remote_marks.MarkedEvent.{MarkedEvent}
use Rattle.diagram.proofs.algorithm.remote_marks.mark_event.Goals as goal

pub returns-clause-marked : goal.returns-clause-marked
returns-clause-marked c = λ run copies.
    ap (λ marks. record { event = c.args.event.now; marks = marks })
    (c.marks_of-marks.ensures run copies ∙ ap₂ (λ p act. marks_of c.args.world.now run p act) c.process-p.ensures c.act-act.ensures)

pub returns-clause-copies : goal.returns-clause-copies
returns-clause-copies c = λ declarations run copies.
    subst (λ (seen : List MemoryEvent). AreCopiesAfter declarations (run ++ seen) c.note_act.new.copies)
    (ap₂ (λ p act. memory_seen p act) c.process-p.ensures c.act-act.ensures) (c.note_act.ensures declarations run copies)
