use Rattle.std.proofs.lemmas.Result.{err_from_is_err_and}
use Rattle.algorithm_lab.proofs.Replays.{none_played, replayed_all}
use Rattle.algorithm_lab.proofs.replay.replay_algorithm.Goals as goal

pub returns-in_err-monitor : goal.returns-in_err-monitor
returns-in_err-monitor g c =
    let s = c.args.schedule.now in
    let p = err_from_is_err_and c.from_residual.result c.from_residual.ensures.1 in
    rw (p.1, p.2) (none_played (g.W.Sink.tape c.args.w.now) c.args.algorithm s.procs s.limit s.lines c.in_err-monitor.field-0.0 c.in_err-monitor.ensures.refused)

pub returns : goal.returns
returns g c =
    let s = c.args.schedule.now in
    let replay = c.in_ok-replay.replay in
    replayed_all c.args.algorithm s.procs s.limit s.lines c.in_ok-monitor.monitor replay.text.items replay.ended (g.W.Sink.tape c.args.w.now) (g.W.Sink.tape c.write_to.new.w)
    c.write_to.result c.in_ok-monitor.ensures.made c.in_ok-monitor.ensures.accepted c.in_ok-replay.ensures c.write_to.ensures
