use Rattle.std.proofs.Common.{arith}
use Rattle.judge.proofs.Bits.{Cleared-more}
use Rattle.judge.proofs.rows.clear_column.Goals as goal

pub loop-row-preserved : goal.loop-row-preserved
loop-row-preserved c =
    Cleared-more _ _ _ _ (omega (arith, c.requires.few, c.requires.below)) (omega (arith, c.loop-row-test.true, c.loop-row.auto.rows)) c.loop-row.invariant
