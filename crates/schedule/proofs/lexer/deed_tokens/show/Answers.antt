use Rattle.schedule.proofs.DeedTokens.{show_line}
use Rattle.schedule.proofs.lexer.deed_tokens.show.Goals as goal

pub returns : goal.returns
returns c = (
  rw c.value-v.ensures.words (show_line c.args.p c.in_ok-at.at c.in_ok-seq.seq _ c.args.text.now c.in_ok-place.place.now c.in_ok-at.more.now c.in_ok-message.message.now c.in_ok-seq.body.now c.in_ok-end.end.now c.in_ok-after.after.now
      c.in_ok-place.ensures c.in_ok-at.ensures.0 c.in_ok-message.ensures c.in_ok-seq.ensures.0 c.in_ok-end.ensures c.in_ok-after.ensures),
  (c.ranges.p.fits, c.in_ok-at.ensures.1, c.in_ok-seq.ensures.1, c.value-v.ensures.value),
)
