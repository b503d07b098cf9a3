-- If the schedule can't be read, nothing is written of its run.
use Rattle.std.proofs.Common.{◌≤◌, ◌⊎◌, ℕ, List, Option, Err, refl, inl, inr, arith}
use Rattle.schedule.specs.Tapes.{Tape, Reading}
use Rattle.cli.specs.declared.arguments.args.DrawArgs.{DrawArgs}
use Rattle.lock_commands.specs.Draws.{DrawEnds, draw_request}
use Rattle.command_parts.specs.declared.fault.CommandFault.{CommandFault}
use Rattle.command_parts.specs.Endings.{FailsToRead}
use Rattle.command_parts.specs.ScheduleTexts.{IsWrongText}
use Rattle.command_parts.specs.Statuses.{status_of}
use Rattle.lock_commands.specs.Tellings.{RunRequest, TellsRead}

pub untold : (request : RunRequest) (image : Option (List ℕ)) (old new : Reading) (now : Tape) (fault : CommandFault)
    → FailsToRead old new fault ⊎ IsWrongText old new fault → TellsRead request image old new now now (Err fault)
untold request image old new now fault (inl fails) = inl (record { taken = refl; fine = refl }, (fault, refl, inl fails))
untold request image old new now fault (inr wrong) = inl (record { taken = refl; fine = refl }, (fault, refl, inr (inr wrong)))

pub unread : (args : DrawArgs) (image : Option (List ℕ)) (old new : Reading) (now : Tape) (fault : CommandFault) → 2 ≤ status_of fault
    → FailsToRead old new fault ⊎ IsWrongText old new fault → DrawEnds args image old new now now (Err fault)
unread args image old new now fault least purpose =
    (λ one right. omega (arith, one, least), untold (draw_request args) image old new now fault purpose)
