use Rattle.schedule.proofs.ReplaysCommon.{err_from_is_err_and}
use Rattle.schedule.proofs.Closing.{closes_nothing}
use Rattle.schedule.proofs.replays.replay_loop.close.Goals as goal

pub returns-in_err-put_end : goal.returns-in_err-put_end
returns-in_err-put_end g c =
    let p = err_from_is_err_and c.from_residual.result c.from_residual.ensures.1 in
    rw (p.1, p.2) (closes_nothing (g.W.Sink.tape c.args.w.now) c.args.image.now c.args.verdict)
