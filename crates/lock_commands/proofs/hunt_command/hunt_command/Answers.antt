use Rattle.std.proofs.Common.{inl}
use Rattle.lock_commands.proofs.hunt_command.hunt_command.Goals as goal

pub returns-in-Ok-None-clause-ends : goal.returns-in-Ok-None-clause-ends
returns-in-Ok-None-clause-ends g c =
    let exact = rw c.in-Ok-None.field-0-is at (rw c.in-Ok-None.is at c.schedule_of_hunt.ensures.exact) in
    inl (exact, c.tell_nothing.ensures.prints)
