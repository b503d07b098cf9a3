use Rattle.std.proofs.Common.{refl, arith}
use Rattle.algorithms.proofs.remote_references.Rows.{all_empty, empty_more}
use Rattle.algorithms.proofs.remote_references.process_rows.clear_rows.Goals as goal

pub loop-row-init : goal.loop-row-init
loop-row-init c = record { all = refl; first = λ k l. absurd (omega arith) }

pub loop-row-preserved : goal.loop-row-preserved
loop-row-preserved c = empty_more _ _ _ (omega (arith, c.loop-row-test.true, c.loop-row.auto.rows)) c.loop-row.invariant

pub returns-clause-rows : goal.returns-clause-rows
returns-clause-rows c = λ holds before. all_empty _ _ _ holds (omega (arith, c.loop-row-test.false, c.loop-row.auto.rows)) c.loop-row.invariant
