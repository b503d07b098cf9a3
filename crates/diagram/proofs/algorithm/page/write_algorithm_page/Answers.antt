use Rattle.diagram.proofs.AlgorithmSteps.{none_written, written_on_new}
use Rattle.diagram.proofs.Common.{err_from_is_err_and}
use Rattle.diagram.specs.AlgorithmPages.{algorithm_page}
use Rattle.schedule.specs.Schedules.{head_of}
use Rattle.diagram.proofs.algorithm.page.write_algorithm_page.Goals as goal

pub returns-in_err-monitor : goal.returns-in_err-monitor
returns-in_err-monitor g c =
    let s = c.args.schedule.now in
    let p = err_from_is_err_and c.from_residual.result c.from_residual.ensures.1 in
    rw (p.1, p.2) (none_written (algorithm_page (head_of s)) c.args.algorithm s (g.W.Sink.tape c.args.w.now) c.in_err-monitor.field-0.0 c.in_err-monitor.ensures.refused)

pub returns : goal.returns
returns g c =
    let s = c.args.schedule.now in
    let made = c.in_ok-page.page in
    written_on_new (algorithm_page (head_of s)) c.args.algorithm s c.in_ok-monitor.monitor made.text.items made.ended (g.W.Sink.tape c.args.w.now) (g.W.Sink.tape c.write_to.new.w) c.write_to.result
    c.in_ok-monitor.ensures.made c.in_ok-monitor.ensures.accepted c.in_ok-page.ensures c.write_to.ensures
