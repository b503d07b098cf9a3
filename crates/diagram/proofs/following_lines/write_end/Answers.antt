use Rattle.std.proofs.Common.{refl, subst, Err}
use Rattle.diagram.proofs.Common.{err_from_is_err_and, breaks_nothing, Image, Judged}
use Rattle.diagram.specs.StepLines.{EndingLines}
use Rattle.diagram.proofs.Lines.{last_some, not_ended}
use Rattle.diagram.proofs.following_lines.write_end.Goals as goal

pub returns-in_default : goal.returns-in_default
returns-in_default g c =
    let image = g.M.Machine.behaviour.image_of c.args.machine.now in
    rw c.in-Judged.is (breaks_nothing (g.W.Sink.tape c.args.w.now).taken _ (last_some image c.in-Judged.verdict), refl)

pub returns-in_err-write_last-in-Judged : goal.returns-in_err-write_last-in-Judged
returns-in_err-write_last-in-Judged g c =
    let t = g.W.Sink.tape c.args.w.now in
    let u = g.W.Sink.tape c.write_last.new.w in
    let p = err_from_is_err_and c.from_residual.result c.from_residual.ensures.1 in
    let fault = c.in_err-write_last-in-Judged.field-0.0 in
    let verdict = c.in-Judged.verdict in
    rw (p.1, p.2) (rw c.in-Judged.is
    (subst (λ (image : Image). EndingLines t u image (Judged verdict) (Err fault)) c.in-Ok.ensures.ok
    (not_ended t u c.in-Ok.image verdict fault c.in_err-write_last-in-Judged.ensures)))
