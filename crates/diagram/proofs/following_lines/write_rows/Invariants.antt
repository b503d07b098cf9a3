use Rattle.std.proofs.Common.{◌≡◌, drop, map}
use Rattle.diagram.proofs.Common.{WritesFront, row_of, events_in}
use Rattle.diagram.specs.StepLines.{object_lines, objects_of}
use Rattle.diagram.proofs.following_lines.write_rows.Given as goal

abbrev pub invariant-loop-row : goal.invariant-loop-row
invariant-loop-row g l =
    WritesFront (g.W.Sink.tape l.fn.w).taken (g.W.Sink.tape l.w).taken (object_lines l.layout (objects_of l.fn.played (map row_of (events_in l.rows)))) (object_lines l.layout (objects_of l.played (map row_of (events_in (drop l.row-index l.rows)))))
    × ((g.W.Sink.tape l.w).failures ≡ (g.W.Sink.tape l.fn.w).failures)
