use Rattle.std.proofs.Common.{◌≡◌, drop, map}
use Rattle.diagram.proofs.Common.{WritesFront, row_of, events_in, marked_rows_text}
use Rattle.diagram.proofs.step_by_step.write_rows.Given as goal

abbrev pub invariant-loop-row : goal.invariant-loop-row
invariant-loop-row g l =
    WritesFront (g.W.Sink.tape l.fn.w).taken (g.W.Sink.tape l.w).taken (marked_rows_text l.layout l.fn.steps (map row_of (events_in l.rows))) (marked_rows_text l.layout l.steps (map row_of (events_in (drop l.row-index l.rows))))
    × ((g.W.Sink.tape l.w).failures ≡ (g.W.Sink.tape l.fn.w).failures)
