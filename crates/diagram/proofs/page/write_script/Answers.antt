use Rattle.diagram.proofs.Common.{err_from_is_err_and}
use Rattle.diagram.proofs.Written.{fails_after}
use Rattle.diagram.proofs.page.write_script.Goals as goal

pub returns-in_err-flush : goal.returns-in_err-flush
returns-in_err-flush g c =
    let p = err_from_is_err_and c.from_residual-in_err-flush.result c.from_residual-in_err-flush.ensures.1 in
    rw (p.1, p.2)
    (fails_after (g.W.Sink.tape c.args.w.now)
    (g.W.Sink.tape c.write_fixed.new.w)
    (g.W.Sink.tape c.flush.new.self) _ c.in_ok-write_fixed.ensures c.in_err-flush.ensures.taken c.in_err-flush.ensures.failed)
