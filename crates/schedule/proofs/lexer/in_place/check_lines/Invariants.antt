use Rattle.std.proofs.Common.{◌+◌, ◌≤◌, length}
use Rattle.schedule.proofs.LexerCommon.{line_at, parts_of, items_at}
use Rattle.schedule.proofs.InPlace.{GoesOn}
use Rattle.schedule.proofs.lexer.in_place.check_lines.Given as goal

abbrev pub invariant-loop-rest : goal.invariant-loop-rest
invariant-loop-rest l = record {
  so_far : GoesOn (line_at l.width) (items_at (line_at l.width) l.first (parts_of l.text)) l.number l.rest;
  room : l.number + length l.rest ≤ l.first + length l.text;
}

abbrev pub decreases-loop-rest : goal.decreases-loop-rest
decreases-loop-rest l = length l.rest
