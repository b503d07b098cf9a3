use Rattle.diagram.proofs.Common.{err_from_is_err_and}
use Rattle.diagram.proofs.NotEmpty.{followed_some}
use Rattle.diagram.proofs.Written.{wants_memory}
use Rattle.diagram.proofs.step_by_step.write_some.Goals as goal

pub returns-in_err-steps : goal.returns-in_err-steps
returns-in_err-steps g c =
    let p = err_from_is_err_and c.from_residual.result c.from_residual.ensures.1 in
    rw (p.1, p.2) (wants_memory (g.W.Sink.tape c.args.w.now) _ (followed_some _ _ _ c.requires))
