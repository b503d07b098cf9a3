use Rattle.std.proofs.Common.{subst}
use Rattle.schedule.specs.Schedules.{Scheduled, spelling}
use Rattle.command_parts.specs.Endings.{Prints}
use Rattle.lock_commands.proofs.explore_command.tell_path.Goals as goal

pub returns-clause-prints : goal.returns-clause-prints
returns-clause-prints g c =
    subst (λ (schedule : Scheduled). Prints 1 (spelling schedule) (g.W.Sink.tape c.args.w.now) (g.W.Sink.tape c.tell_schedule.new.w) c.tell_schedule.result)
    c.in_ok-schedule.ensures.schedule c.tell_schedule.ensures.prints
