use Rattle.std.proofs.Common.{◌≡◌, drop, map}
use Rattle.diagram.proofs.Common.{WritesFront, rows_spelled}
use Rattle.diagram.proofs.drawing_writer.write_rows.Given as goal

abbrev pub invariant-loop-row : goal.invariant-loop-row
invariant-loop-row g l =
    WritesFront (g.W.Sink.tape l.fn.w).taken (g.W.Sink.tape l.w).taken (rows_spelled l.diagram_layout l.fn.lifeline_state (map (g.R.Row.shows l.names) l.rows))
    (rows_spelled l.diagram_layout l.lifeline_state (map (g.R.Row.shows l.names) (drop l.row-index l.rows)))
    × ((g.W.Sink.tape l.w).failures ≡ (g.W.Sink.tape l.fn.w).failures)
