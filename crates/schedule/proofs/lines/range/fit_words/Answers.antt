use Rattle.std.proofs.Common.{arith}
use Rattle.schedule.proofs.Ranges.{by_recursion}
use Rattle.schedule.proofs.lines.range.fit_words.Goals as goal

pub returns : goal.returns
returns c = by_recursion _ c.args.numbers.now (λ k lt. grind (arith, c.type_inv.numbers k))
