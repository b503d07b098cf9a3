use Rattle.diagram.proofs.Common.{err_from_is_err_and}
use Rattle.diagram.proofs.Parts.{both_parts, first_fails}
use Rattle.diagram.proofs.following_lines.write_from_first.Goals as goal

pub returns-in_err-write_first : goal.returns-in_err-write_first
returns-in_err-write_first g c =
    let p = err_from_is_err_and c.from_residual.result c.from_residual.ensures.1 in
    rw (p.1, p.2)
    (first_fails (g.W.Sink.tape c.args.w.now)
    (g.W.Sink.tape c.write_first.new.w) _ _ c.in_err-write_first.field-0.0 c.in_err-write_first.ensures)

pub returns : goal.returns
returns g c =
    both_parts (g.W.Sink.tape c.args.w.now)
    (g.W.Sink.tape c.write_first.new.w)
    (g.W.Sink.tape c.write_rows.new.w) _ _ c.write_rows.result c.in_ok-write_first.ensures c.write_rows.ensures
