use Rattle.std.proofs.Common.{inl}
use Rattle.lock_commands.proofs.hunt_command.tell_least.Goals as goal

pub returns-clause-reports : goal.returns-clause-reports
returns-clause-reports g c = inl (c.in_ok-least.least, c.in_ok-least.ensures, c.tell_schedule.ensures.prints)
