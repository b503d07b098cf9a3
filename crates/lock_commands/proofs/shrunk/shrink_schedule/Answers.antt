use Rattle.std.proofs.Common.{Some, None}
use Rattle.lock_commands.proofs.Telling.{shrunk_reported}
use Rattle.lock_commands.proofs.shrunk.shrink_schedule.Goals as goal

pub returns-in-Some-clause-shrinks : goal.returns-in-Some-clause-shrinks
returns-in-Some-clause-shrinks g c =
    shrunk_reported c.args.variant c.args.schedule.now (Some c.in-Some.least) _ _ c.tell_schedule.result
    (rw c.in-Some.is at c.in_ok-least.ensures)
    c.tell_schedule.ensures.prints

pub returns-in-None-clause-shrinks : goal.returns-in-None-clause-shrinks
returns-in-None-clause-shrinks g c =
    shrunk_reported c.args.variant c.args.schedule.now None _ _ c.tell_fine.result
    (rw c.in-None.is at c.in_ok-least.ensures)
    c.tell_fine.ensures.prints
