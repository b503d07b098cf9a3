use Rattle.diagram.proofs.Common.{err_from_is_err_and}
use Rattle.schedule.specs.Schedules.{head_of}
use Rattle.diagram.proofs.AlgorithmDrawn.{none_drawn, on_new}
use Rattle.diagram.proofs.algorithm.run_diagram.draw_algorithm.Goals as goal

pub returns-in_err-monitor : goal.returns-in_err-monitor
returns-in_err-monitor g c =
    let s = c.args.schedule.now in
    let p = err_from_is_err_and c.from_residual.result c.from_residual.ensures.1 in
    rw (p.1, p.2) (none_drawn (g.W.Sink.tape c.args.w.now) c.args.style (head_of s) c.args.algorithm s.lines c.in_err-monitor.field-0.0 c.in_err-monitor.ensures.refused)

pub returns : goal.returns
returns g c =
    let s = c.args.schedule.now in
    on_new (g.W.Sink.tape c.args.w.now) (g.W.Sink.tape c.draw_on.new.w) c.args.style (head_of s) c.args.algorithm c.in_ok-monitor.monitor s.lines c.draw_on.result c.in_ok-monitor.ensures.made c.in_ok-monitor.ensures.accepted c.draw_on.ensures
