use Rattle.std.proofs.Common.{◌≡◌, ◌-◌, length, take}
use Rattle.diagram.proofs.session.opened.without_last_line.Given as goal

abbrev pub invariant-loop-line : goal.invariant-loop-line
invariant-loop-line l =
    (l.shorter ≡ record l.schedule { lines = take l.line-index l.line-items }) × (l.line-items ≡ take (length l.schedule.lines - 1) l.schedule.lines)
