use Rattle.std.proofs.Common.{◌≡◌, ◌++◌, take}
use Rattle.schedule.proofs.TextsCommon.{flat_map, words_of_line, words_of_head, head_of, line_of}
use Rattle.schedule.proofs.texts.text_writer.write_schedule.Given as goal

abbrev pub invariant-loop-line : goal.invariant-loop-line
invariant-loop-line l = l.out.items ≡ line_of (words_of_head (head_of l.schedule)) ++ flat_map (λ line. line_of (words_of_line line)) (take l.line-index l.line-items)
