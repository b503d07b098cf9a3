use Rattle.std.proofs.Common.{[], map, take}
use Rattle.diagram.specs.LockMarks.{MarksRows}
use Rattle.diagram.proofs.Common.{events_in, row_of}
use Rattle.diagram.proofs.lock_marks.mark_rows.Given as goal

abbrev pub invariant-loop-row : goal.invariant-loop-row
invariant-loop-row l = MarksRows l.layout [] (map row_of (events_in (take l.row-index l.rows))) [] l.marks.items l.copies
