use Rattle.std.proofs.Common.{get_or}
use Rattle.judge.proofs.Common.{Out, is_ready}
use Rattle.judge.proofs.Bits.{Filled}
use Rattle.judge.proofs.rows.ready_row.Given as goal

abbrev pub invariant-loop-q : goal.invariant-loop-q
invariant-loop-q l = Filled l.row l.q (λ k. is_ready (get_or l.phases k Out))
