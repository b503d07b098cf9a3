-- How drawing a schedule ends.
use Rattle.std.specs.Prelude.{◌≡◌, ◌≢◌, List, ℕ, Option, Result}
use Rattle.command_parts.specs.Options.{style_of}
use Rattle.crashlab.specs.declared.variants.variant.Variant.TheVariants.{Right}
use Rattle.schedule.specs.Tapes.{Tape, Reading}
use Rattle.cli.specs.declared.arguments.args.DrawArgs.{DrawArgs}
use Rattle.command_parts.specs.Statuses.{status_ended}
use Rattle.lock_commands.specs.Tellings.{Manner, drawn_as, TellsRead, RunRequest}
use Rattle.command_parts.specs.declared.ending.Ending.{Ending}
use Rattle.command_parts.specs.declared.fault.CommandFault.{CommandFault}

-- how the run is to be written
abbrev pub draw_manner : DrawArgs → Manner
draw_manner args = drawn_as args.html (style_of args.svg)

abbrev pub draw_request : DrawArgs → RunRequest
draw_request args = record { variant = args.variant; manner = draw_manner args }

-- no verdict is against the right lock
abbrev pub DrawEnds : DrawArgs → Option (List ℕ) → Reading → Reading → Tape → Tape → Result Ending CommandFault → Type 0
DrawEnds args image old new before now end =
    (status_ended end ≡ 1 → args.variant ≢ Right) × TellsRead (draw_request args) image old new before now end
