use Rattle.std.proofs.Common.{subst, Err}
use Rattle.diagram.proofs.Common.{err_from_is_err_and, Image, Judged, WritesEnding}
use Rattle.schedule.proofs.Closing.{closes_nothing}
use Rattle.diagram.proofs.Ended.{not_closed}
use Rattle.diagram.proofs.step_by_step.write_end.Goals as goal

pub returns-in_default : goal.returns-in_default
returns-in_default g c =
    rw c.in-Judged.is (closes_nothing (g.W.Sink.tape c.args.w.now) (g.M.Machine.behaviour.image_of c.args.machine.now) c.in-Judged.verdict)

pub returns-in_err-close-in-Judged : goal.returns-in_err-close-in-Judged
returns-in_err-close-in-Judged g c =
    let t = g.W.Sink.tape c.args.w.now in
    let u = g.W.Sink.tape c.close.new.w in
    let p = err_from_is_err_and c.from_residual.result c.from_residual.ensures.1 in
    let fault = c.in_err-close-in-Judged.field-0.0 in
    let verdict = c.in-Judged.verdict in
    rw (p.1, p.2) (rw c.in-Judged.is
    (subst (λ (image : Image). WritesEnding t u image (Judged verdict) (Err fault)) c.in-Ok.ensures.ok
    (not_closed t u c.in-Ok.image verdict fault c.in_err-close-in-Judged.ensures)))
