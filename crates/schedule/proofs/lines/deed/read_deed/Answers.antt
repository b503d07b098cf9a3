use Rattle.std.proofs.Common.{◌≡◌, Some, drop, arith}
use Rattle.schedule.proofs.LinesCommon.{deeds_by_name, deed_with, words_of, first_of, value_of_name}
use Rattle.schedule.specs.Deeds.{places}
use Rattle.schedule.proofs.Forms.{item_at-named}
use Rattle.schedule.proofs.lines.deed.read_deed.Goals as goal

pub returns : goal.returns
returns c =
    let first : first_of (words_of c.args.line.now) ≡ Some c.in_ok-word.word.now = grind arith in
    let is : value_of_name deeds_by_name c.in_ok-word.word.now ≡ Some c.in_ok-deed_word.deed_word = grind arith in
    let rest : c.next.new.self ≡ drop 1 (words_of c.args.line.now) = grind arith in
    rw (item_at-named deeds_by_name (places c.args.width) deed_with (words_of c.args.line.now) c.in_ok-word.word.now c.in_ok-deed_word.deed_word first is, ← rest) c.deed_after.ensures
