use Rattle.diagram.proofs.Common.{err_from_is_err_and}
use Rattle.diagram.proofs.Parts.{both_parts, first_fails}
use Rattle.diagram.proofs.page.write_after_drawing.Goals as goal

pub returns-in_err-write_fixed : goal.returns-in_err-write_fixed
returns-in_err-write_fixed g c =
    let p = err_from_is_err_and c.from_residual.result c.from_residual.ensures.1 in
    rw (p.1, p.2)
    (first_fails (g.W.Sink.tape c.args.w.now)
    (g.W.Sink.tape c.write_fixed.new.w) _ _ c.in_err-write_fixed.field-0.0 c.in_err-write_fixed.ensures)

pub returns : goal.returns
returns g c =
    both_parts (g.W.Sink.tape c.args.w.now)
    (g.W.Sink.tape c.write_fixed.new.w)
    (g.W.Sink.tape c.write_from_lines.new.w) _ _ c.write_from_lines.result c.in_ok-write_fixed.ensures c.write_from_lines.ensures
