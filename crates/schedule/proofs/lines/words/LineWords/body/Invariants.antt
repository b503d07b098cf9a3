use Rattle.std.proofs.Common.{◌≡◌, ◌-◌, take, length}
use Rattle.schedule.proofs.LinesCommon.{repeated_shape, numbers_at}
use Rattle.schedule.proofs.LineForms.{with_front}
use Rattle.schedule.proofs.lines.words.LineWords.body.Given as goal

abbrev pub invariant-loop-j : goal.invariant-loop-j
invariant-loop-j l = (with_front (take l.j l.words) (numbers_at (repeated_shape (l.width - l.j)) l.self) ≡ numbers_at (repeated_shape l.width) l.fn.self) × (length l.words ≡ 8)
