use Rattle.std.proofs.Common.{arith}
use Rattle.schedule.proofs.Tokens.{digit_step}
use Rattle.schedule.proofs.lexer.tokens.one_step.Goals as goal

pub returns : goal.returns
returns c width = rw c.from.ensures (digit_step width c.in_ok-name.name c.args.text.now c.in_ok-name.rest.now (grind arith) c.in_ok-name.ensures)
