-- What a command is that holds a session.
use Rattle.std.proofs.Common.{◌≡◌, ℕ, List, String, Option, Result, true, Some, None, is_some, refl, inr, option_copied, Bor}
use Rattle.std.specs.declared.alloc.Global.{Global}
use Rattle.schedule.specs.Tapes.{Reading, Tape}
use Rattle.cli.specs.FilesNamed.{image_of as image_of_command, input_of, save_of, start_of}
use Rattle.cli.specs.declared.arguments.args.Command.{Command}
use Rattle.cli.specs.declared.arguments.args.Command.TheVariants.{Step, StepAlgorithm}
use Rattle.command_parts.specs.Devices.{devices}
use Rattle.commands.specs.Commands.{SessionEndsOf}
use Rattle.command_parts.specs.Folders.{Used, is_session}
use Rattle.commands.specs.Programs.{SessionEndsIn}
use Rattle.command_parts.specs.declared.ending.Ending.{Ending}
use Rattle.command_parts.specs.declared.fault.CommandFault.{CommandFault}

-- a session that begins where nothing was written
pub in_folder : (command : Command) (image start : Option (List ℕ)) (before first now : Used) (old new : Reading) (blank written : Tape) (end : Result Ending CommandFault)
    → is_some image ≡ is_some (image_of_command command) → is_some start ≡ is_some (start_of command) → first.saved ≡ before.saved → first.texts ≡ before.texts
    → SessionEndsOf command image start (devices old first blank) (devices new now written) end
    → SessionEndsIn command (devices old before blank) (devices new now written) end
in_folder command image start before first now old new blank written end named started saved texts ends =
    inr (image, named, start, started, first, record { names = saved; texts = texts }, ends)

-- what is copied is there where it was
pub copied_some : (image : Option (Bor (List ℕ))) → is_some (option_copied image) ≡ is_some image
copied_some (Some x) = refl
copied_some None = refl
