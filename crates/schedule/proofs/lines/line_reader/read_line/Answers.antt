use Rattle.std.proofs.Common.{◌≡◌, Some, drop, arith}
use Rattle.schedule.proofs.LinesCommon.{commands_by_name, places, line_with, words_of, first_of, value_of_name}
use Rattle.schedule.proofs.Forms.{item_at-named}
use Rattle.schedule.proofs.lines.line_reader.read_line.Goals as goal

pub returns : goal.returns
returns c =
    let first : first_of (words_of c.args.line.now) ≡ Some c.in_ok-word.word.now = grind arith in
    let is : value_of_name commands_by_name c.in_ok-word.word.now ≡ Some c.in_ok-command.command = grind arith in
    let rest : c.next.new.self ≡ drop 1 (words_of c.args.line.now) = grind arith in
    rw (item_at-named commands_by_name (places c.args.width) line_with (words_of c.args.line.now) c.in_ok-word.word.now c.in_ok-command.command first is, ← rest) c.line_after.ensures
