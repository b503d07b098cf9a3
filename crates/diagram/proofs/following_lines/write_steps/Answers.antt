use Rattle.diagram.proofs.Common.{err_from_is_err_and, events_in}
use Rattle.diagram.proofs.Lines.{steps_some}
use Rattle.diagram.proofs.Written.{wants_memory}
use Rattle.diagram.proofs.following_lines.write_steps.Goals as goal

pub returns-in_err-played : goal.returns-in_err-played
returns-in_err-played g c =
    let p = err_from_is_err_and c.from_residual.result c.from_residual.ensures.1 in
    rw (p.1, p.2)
    (wants_memory (g.W.Sink.tape c.args.w.now) _
    (steps_some c.args.drawing.now.head c.args.drawing.now.first c.args.image.now (events_in c.args.drawing.now.rows.items)))
