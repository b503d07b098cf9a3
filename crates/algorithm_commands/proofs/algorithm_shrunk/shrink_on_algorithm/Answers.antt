use Rattle.std.proofs.Common.{Some, None}
use Rattle.algorithm_commands.proofs.AlgorithmShrinks.{not_shrunk, shrunk_reported}
use Rattle.algorithm_commands.proofs.algorithm_shrunk.shrink_on_algorithm.Goals as goal

pub returns-in-Ok-Some-clause-reports : goal.returns-in-Ok-Some-clause-reports
returns-in-Ok-Some-clause-reports g c =
    shrunk_reported c.args.algorithm c.args.schedule.now (Some c.in-Ok-Some.least) _ _ c.tell_schedule.result
    (rw c.in-Ok-Some.field-0-is at c.in-Ok-Some.ensures)
    c.tell_schedule.ensures.prints

pub returns-in-Ok-None-clause-reports : goal.returns-in-Ok-None-clause-reports
returns-in-Ok-None-clause-reports g c =
    shrunk_reported c.args.algorithm c.args.schedule.now None _ _ c.tell_fine.result
    (rw c.in-Ok-None.field-0-is at c.in-Ok-None.ensures)
    c.tell_fine.ensures.prints

pub returns-in-Err-clause-reports : goal.returns-in-Err-clause-reports
returns-in-Err-clause-reports g c =
    rw (c.replay_fault.ensures c.args.algorithm.algorithm c.requires) (not_shrunk c.args.algorithm c.args.schedule.now (g.W.Sink.tape c.args.w.now) c.in-Err.fault c.in-Err.ensures)
