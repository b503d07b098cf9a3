use Rattle.schedule.proofs.LexerCommon.{line_at}
use Rattle.schedule.proofs.Items.{cut_fails, uncut_fails}
use Rattle.schedule.proofs.InPlace.{cut_begins}
use Rattle.schedule.proofs.lexer.in_place.line_by_words.Goals as goal

pub returns-in_default-clause-fault : goal.returns-in_default-clause-fault
returns-in_default-clause-fault c k = uncut_fails (line_at c.args.width) k c.args.text.now c.in_default.ensures.parts c.requires.some

pub returns-in-Ok-clause-read : goal.returns-in-Ok-clause-read
returns-in-Ok-clause-read c = cut_begins (line_at c.args.width) c.args.text.now c.in-Some.line.now c.in-Some.after.now c.in-Ok.item c.in-Some.ensures.parts c.in-Some.ensures.whole c.in-Ok.ensures

pub returns-in-Err-clause-fault : goal.returns-in-Err-clause-fault
returns-in-Err-clause-fault c k = cut_fails (line_at c.args.width) k c.args.text.now c.in-Some.line.now c.in-Some.after.now c.in-Err.fault c.in-Some.ensures.parts c.in-Err.ensures
