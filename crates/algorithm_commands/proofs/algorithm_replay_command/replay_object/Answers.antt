use Rattle.std.proofs.lemmas.Result.{err_from_is_err_and}
use Rattle.diagram.proofs.AlgorithmSteps.{none_written, written_on_new}
use Rattle.algorithm_commands.specs.AlgorithmReplays.{object_of_run}
use Rattle.algorithm_commands.proofs.algorithm_replay_command.replay_object.Goals as goal

pub returns-in_err-monitor : goal.returns-in_err-monitor
returns-in_err-monitor g c =
    let p = err_from_is_err_and c.from_residual.result c.from_residual.ensures.1 in
    rw (p.1, p.2) (none_written object_of_run c.args.algorithm c.args.schedule.now (g.W.Sink.tape c.args.w.now) c.in_err-monitor.field-0.0 c.in_err-monitor.ensures.refused)

pub returns : goal.returns
returns g c =
    let made = c.in_ok-object.object in
    written_on_new object_of_run c.args.algorithm c.args.schedule.now c.in_ok-monitor.monitor made.text.items made.ended (g.W.Sink.tape c.args.w.now) (g.W.Sink.tape c.write_to.new.w) c.write_to.result
    c.in_ok-monitor.ensures.made c.in_ok-monitor.ensures.accepted c.in_ok-object.ensures c.write_to.ensures
