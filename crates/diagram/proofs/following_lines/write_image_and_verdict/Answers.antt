use Rattle.diagram.proofs.Common.{err_from_is_err_and}
use Rattle.diagram.proofs.Lines.{last_some}
use Rattle.diagram.proofs.Written.{wants_memory}
use Rattle.diagram.proofs.following_lines.write_image_and_verdict.Goals as goal

pub returns-in_err-put_last : goal.returns-in_err-put_last
returns-in_err-put_last g c =
    let p = err_from_is_err_and c.from_residual.result c.from_residual.ensures.1 in
    rw (p.1, p.2) (wants_memory (g.W.Sink.tape c.args.w.now) _ (last_some c.args.image.now c.args.verdict))
