use Rattle.diagram.proofs.Common.{err_from_is_err_and}
use Rattle.diagram.proofs.Parts.{both_parts, first_fails}
use Rattle.diagram.proofs.page.write_from_lines.Goals as goal

pub returns-in_err-write_steps : goal.returns-in_err-write_steps
returns-in_err-write_steps g c =
    let p = err_from_is_err_and c.from_residual.result c.from_residual.ensures.1 in
    rw (p.1, p.2)
    (first_fails (g.W.Sink.tape c.args.w.now)
    (g.W.Sink.tape c.write_steps.new.w) _ _ c.in_err-write_steps.field-0.0 c.in_err-write_steps.ensures)

pub returns : goal.returns
returns g c =
    both_parts (g.W.Sink.tape c.args.w.now)
    (g.W.Sink.tape c.write_steps.new.w)
    (g.W.Sink.tape c.write_after_steps.new.w) _ _ c.write_after_steps.result c.in_ok-write_steps.ensures c.write_after_steps.ensures
