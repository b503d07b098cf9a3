-- What a command reads and writes.
use Rattle.schedule.specs.Tapes.{Reading, Tape}
use Rattle.command_parts.specs.Folders.{Used}

-- what was read of its input, what was asked of the folder, and what was written to its output
pub record Devices : Type 0 where
  pub input : Reading
  pub files : Used
  pub output : Tape

abbrev pub devices : Reading → Used → Tape → Devices
devices input files output = record { input = input; files = files; output = output }
