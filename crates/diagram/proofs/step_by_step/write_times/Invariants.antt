use Rattle.std.proofs.Common.{◌≡◌, ◌-◌}
use Rattle.diagram.proofs.Common.{replicate, WritesFront, marked_rows_text, marked_steps_after}
use Rattle.diagram.proofs.step_by_step.write_times.Given as goal

abbrev pub invariant-loop : goal.invariant-loop
invariant-loop g l =
    WritesFront (g.W.Sink.tape l.fn.w).taken (g.W.Sink.tape l.w).taken (marked_rows_text l.layout l.fn.steps (replicate l.times l.row)) (marked_rows_text l.layout l.steps (replicate (l.times - l.counter) l.row))
    × ((g.W.Sink.tape l.w).failures ≡ (g.W.Sink.tape l.fn.w).failures)
    × (marked_steps_after l.steps (replicate (l.times - l.counter) l.row) ≡ marked_steps_after l.fn.steps (replicate l.times l.row))
