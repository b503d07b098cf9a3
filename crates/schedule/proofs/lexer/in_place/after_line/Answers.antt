use Rattle.schedule.specs.declared.lines.line.Line.TheVariants.{Step}
use Rattle.schedule.proofs.lexer.in_place.after_line.Goals as goal

pub returns-in-Some-clause-read : goal.returns-in-Some-clause-read
returns-in-Some-clause-read c = (Step c.in-Some.field-0-0 c.in-Some.field-0-1, c.in-Some.ensures.read c.args.width)
