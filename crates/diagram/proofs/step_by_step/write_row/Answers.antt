use Rattle.diagram.proofs.Common.{err_from_is_err_and}
use Rattle.diagram.proofs.NotEmpty.{reported_some}
use Rattle.diagram.proofs.Written.{wants_memory}
use Rattle.diagram.proofs.step_by_step.write_row.Goals as goal

pub returns-in_err-put_row : goal.returns-in_err-put_row
returns-in_err-put_row g c =
    let p = err_from_is_err_and c.from_residual.result c.from_residual.ensures.1 in
    rw (p.1, p.2) (wants_memory (g.W.Sink.tape c.args.w.now) _ (reported_some _ _ _ _))
