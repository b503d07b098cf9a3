use Rattle.std.proofs.Common.{length, take}
use Rattle.algorithms.specs.remote_references.CopyRows.{AreCopiesAfter}
use Rattle.diagram.proofs.AlgorithmMarks.{IsMarkedSoFar}
use Rattle.diagram.specs.AlgorithmMarks.{all_memory_kept}
use Rattle.diagram.proofs.algorithm.remote_marks.mark_events.Given as goal

abbrev pub invariant-loop-event : goal.invariant-loop-event
invariant-loop-event l =
    IsMarkedSoFar l.world l.events l.event-index l.marked.items
    × AreCopiesAfter (length l.world.algorithm.declarations.items) (all_memory_kept (take l.event-index l.events)) l.copies
