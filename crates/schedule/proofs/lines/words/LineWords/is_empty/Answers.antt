use Rattle.std.proofs.Common.{sym}
use Rattle.schedule.proofs.LineForms.{line_has_word}
use Rattle.schedule.proofs.lines.words.LineWords.is_empty.Goals as goal

pub returns-in-Some : goal.returns-in-Some
returns-in-Some c = rw (← c.self.view_is) (rw c.in-Some.is (sym (line_has_word c.in-Some.field-0.now).0))
