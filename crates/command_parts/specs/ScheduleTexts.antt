-- Why no schedule is read from a text.
use Rattle.std.specs.Prelude.{◌≡◌, ℕ, List, Err}
use Rattle.schedule.specs.declared.lines.fault.LineFault.{LineFault}
use Rattle.schedule.specs.Numbers.{number_of as number_of_line}
use Rattle.schedule.specs.Schedules.{schedule_at}
use Rattle.command_parts.specs.declared.fault.CommandFault.TheVariants.{Text}
use Rattle.schedule.specs.Wholes.{WasRead}
use Rattle.schedule.specs.Tapes.{Reading}
use Rattle.command_parts.specs.Endings.{CommandFault}

-- the text isn't a schedule
abbrev pub IsNoSchedule : List ℕ → CommandFault → Type 0
IsNoSchedule text fault = (line : ℕ) × (purpose : LineFault) × (schedule_at text ≡ Err (line, purpose)) × (fault ≡ Text line (number_of_line purpose))

-- the text that was read isn't a schedule
unfoldable pub IsWrongText : Reading → Reading → CommandFault → Type 0
IsWrongText old new fault = (text : List ℕ) × WasRead old new text × IsNoSchedule text fault
