use Rattle.std.proofs.Common.{◌∙◌, arith}
use Rattle.std.proofs.Math.ListN.{length-set}
use Rattle.schedule.proofs.DeedTokens.{value_grows}
use Rattle.schedule.proofs.lexer.tokens.numbers.Goals as goal

pub loop-j-preserved : goal.loop-j-preserved
loop-j-preserved c = record {
  text = value_grows c.args.text.now c.loop-j.rest.now c.in_ok-after.after.now c.in_ok-n.tail.now c.loop-j.words c.loop-j.j c.in_ok-n.n (omega (arith, c.loop-j.invariant.all, c.loop-j-test.true, c.requires)) c.loop-j.invariant.text c.in_ok-after.ensures c.in_ok-n.ensures.0;
  all = length-set c.loop-j.words c.loop-j.j c.in_ok-n.n ∙ c.loop-j.invariant.all;
}
