use Rattle.schedule.proofs.LineTokens.{put_line}
use Rattle.schedule.proofs.lexer.line_tokens.put.Goals as goal

pub returns : goal.returns
returns c = (
  put_line c.args.p c.in_ok-i.i c.in_ok-v.v c.args.text.now c.in_ok-place.place.now c.in_ok-i.more.now c.in_ok-word.word.now c.in_ok-v.end.now c.in_ok-after.after.now
      c.in_ok-place.ensures c.in_ok-i.ensures.0 c.in_ok-word.ensures c.in_ok-v.ensures.0 c.in_ok-after.ensures,
  λ width. (c.ranges.p.fits, (c.in_ok-i.ensures.1, c.in_ok-v.ensures.1)),
)
