use Rattle.std.proofs.Common.{◌≡◌, take}
use Rattle.schedule.proofs.LinesCommon.{digits_value}
use Rattle.schedule.proofs.lines.number.value_of.Given as goal

abbrev pub invariant-loop-digit : goal.invariant-loop-digit
invariant-loop-digit l = l.value ≡ digits_value 10 (take l.digit-index l.digits)
