use Rattle.std.proofs.Common.{◌≡◌, ◌-◌}
use Rattle.diagram.proofs.Common.{replicate, WritesFront}
use Rattle.diagram.specs.StepLines.{object_lines, objects_of, played_after}
use Rattle.diagram.proofs.following_lines.write_times.Given as goal

abbrev pub invariant-loop : goal.invariant-loop
invariant-loop g l =
    WritesFront (g.W.Sink.tape l.fn.w).taken (g.W.Sink.tape l.w).taken (object_lines l.layout (objects_of l.fn.played (replicate l.times l.row))) (object_lines l.layout (objects_of l.played (replicate (l.times - l.counter) l.row)))
    × ((g.W.Sink.tape l.w).failures ≡ (g.W.Sink.tape l.fn.w).failures)
    × (played_after l.played (replicate (l.times - l.counter) l.row) ≡ played_after l.fn.played (replicate l.times l.row))
