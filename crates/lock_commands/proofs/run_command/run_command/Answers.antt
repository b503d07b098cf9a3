use Rattle.std.proofs.Common.{inl, ◌∙◌}
use Rattle.lock_commands.proofs.Tallies.{prints_sent}
use Rattle.lock_commands.proofs.run_command.run_command.Goals as goal

pub returns-clause-ends : goal.returns-clause-ends
returns-clause-ends g c =
    inl (prints_sent c.args.args.now.procs c.args.args.now.messages c.deref.result.now (g.W.Sink.tape c.args.w.now) (g.W.Sink.tape c.tell_tallies.new.w) c.tell_tallies.result
    (c.deref.ensures.value ∙ c.in_ok-tallies.ensures.sent) c.tell_tallies.ensures.reports)
