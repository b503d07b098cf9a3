use Rattle.std.proofs.Common.{◌≡◌, ◌++◌, take}
use Rattle.schedule.proofs.LinesCommon.{spaced_numbers}
use Rattle.schedule.proofs.lines.line_writer.put_body.Given as goal

abbrev pub invariant-loop-word : goal.invariant-loop-word
invariant-loop-word l = l.out.items ≡ l.fn.out.items ++ spaced_numbers (take l.word-index l.word-items)
