use Rattle.schedule.proofs.LineTokens.{get_line}
use Rattle.schedule.proofs.lexer.line_tokens.get.Goals as goal

pub returns : goal.returns
returns c = (
  get_line c.args.p c.in_ok-i.i c.args.text.now c.in_ok-place.place.now c.in_ok-i.end.now c.in_ok-after.after.now c.in_ok-place.ensures c.in_ok-i.ensures.0 c.in_ok-after.ensures,
  λ width. (c.ranges.p.fits, c.in_ok-i.ensures.1),
)
