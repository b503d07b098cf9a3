use Rattle.lock_commands.proofs.Replays.{object_after, object_cut}
use Rattle.lock_commands.proofs.replay_command.replay_object.Goals as goal

pub returns-in-Ok-clause-reports : goal.returns-in-Ok-clause-reports
returns-in-Ok-clause-reports g c start keeps =
    object_after _ _ _ _ start _ _ c.in-Ok.verdict c.as_slice.result.now c.write_object.result (c.in-Ok.ensures.replay start keeps) c.new-page.ensures.bytes
    c.as_slice.ensures c.write_object.ensures.written c.write_object.ensures.unwritten

pub returns-clause-reports : goal.returns-clause-reports
returns-clause-reports g c start keeps =
    rw c.in_memory.ensures (object_cut (g.W.Sink.tape c.args.w.now) _ _ start _ _ c.in-Err.fault (c.in-Err.ensures.replay start keeps))
