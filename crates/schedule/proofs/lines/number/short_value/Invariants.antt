use Rattle.std.proofs.Common.{◌≡◌, take, true}
use Rattle.schedule.proofs.LinesCommon.{is_ascii_digit, list_all, digits_value}
use Rattle.schedule.proofs.lines.number.short_value.Given as goal

abbrev pub invariant-loop-byte : goal.invariant-loop-byte
invariant-loop-byte l = (list_all is_ascii_digit (take l.byte-index l.word) ≡ true) × (l.value ≡ digits_value 10 (take l.byte-index l.word))
