use Rattle.std.proofs.Common.{arith}
use Rattle.schedule.proofs.Tokens.{one_step, more_steps}
use Rattle.schedule.proofs.lexer.tokens.steps.Goals as goal

pub returns-in-Some-after_line_end-clause-read : goal.returns-in-Some-after_line_end-clause-read
returns-in-Some-after_line_end-clause-read c width =
    one_step width c.in_ok-p.p c.args.text.now c.in_ok-word.word.now c.in_ok-p.rest.now c.in-Some-after_line_end.after.now c.in_ok-p.ensures.1 c.in_ok-word.ensures c.in_ok-p.ensures.0 c.in-Some-after_line_end.ensures

pub returns-clause-read : goal.returns-clause-read
returns-clause-read c width =
    more_steps width c.in_ok-p.p c.in_ok-k.k c.args.text.now c.in_ok-word.word.now c.in_ok-p.rest.now c.in_ok-more.more.now c.in_ok-k.end.now c.in_ok-after.after.now c.in_ok-p.ensures.1 (grind arith) (grind arith)
    c.in_ok-word.ensures c.in_ok-p.ensures.0 c.in_ok-more.ensures c.in_ok-k.ensures.0 c.in_ok-after.ensures
