use Rattle.std.proofs.Common.{arith}
use Rattle.schedule.proofs.Numbers.{all_digits}
use Rattle.schedule.proofs.lines.number.long_value.Goals as goal

pub value_of-requires : goal.value_of-requires
value_of-requires c = all_digits c.args.word.now (grind arith)
