-- The numbers of the faults (the specification's Faults of the text).
use Rattle.std.specs.Prelude.{ℕ}
use Rattle.schedule.specs.declared.lines.fault.LineFault.{LineFault}
use Rattle.schedule.specs.declared.lines.fault.LineFault.TheVariants.{NoHeader, BadWord, BadNumber, TooBig, NoNewline, TrailingText}

-- the number of a fault, from 1 to 6
abbrev pub number_of : LineFault → ℕ
number_of NoHeader = 1
number_of BadWord = 2
number_of BadNumber = 3
number_of TooBig = 4
number_of NoNewline = 5
number_of TrailingText = 6
