use Rattle.diagram.proofs.Common.{err_from_is_err_and}
use Rattle.diagram.proofs.NotEmpty.{top_some}
use Rattle.diagram.proofs.Written.{wants_memory}
use Rattle.diagram.proofs.drawing_writer.write_top.Goals as goal

pub returns-in_err-put_top : goal.returns-in_err-put_top
returns-in_err-put_top g c =
    let p = err_from_is_err_and c.from_residual.result c.from_residual.ensures.1 in
    rw (p.1, p.2) (wants_memory (g.W.Sink.tape c.args.w.now) _ (top_some _ _ _ _))
