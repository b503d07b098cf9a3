use Rattle.std.proofs.Common.{take}
use Rattle.judge.proofs.Common.{HasBits, is_named}
use Rattle.judge.proofs.rows.row_of.Given as goal

abbrev pub invariant-loop-name : goal.invariant-loop-name
invariant-loop-name l = HasBits l.row 64 (is_named (take l.name-index l.names))
