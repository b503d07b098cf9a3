use Rattle.schedule.proofs.LineForms.{line_has_word}
use Rattle.schedule.proofs.lines.words.LineWords.end.Goals as goal

pub returns-in-Some : goal.returns-in-Some
returns-in-Some c = rw (← c.self.view_is) (rw c.in-Some.is (line_has_word c.in-Some.field-0.now).1)
