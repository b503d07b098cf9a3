use Rattle.std.proofs.Common.{◌∙◌, ap}
use Rattle.schedule.proofs.LexerCommon.{line_at, parts_of, items_at}
use Rattle.schedule.proofs.InPlace.{drop_first}
use Rattle.schedule.proofs.lexer.in_place.read_to.Goals as goal

pub returns-in-Ok-clause-lines : goal.returns-in-Ok-clause-lines
returns-in-Ok-clause-lines c =
    let tail = c.in-Ok.ensures.tail in
    let lines = c.in-Ok.ensures.lines in
    let same = drop_first c.args.text.now tail.0 c.in-Ok.lines.now tail.1 in
    (lines.0, ap (λ t. items_at (line_at c.in-Ok.head.width) 2 (parts_of t)) same ∙ lines.1, lines.2)
