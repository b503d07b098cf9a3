use Rattle.std.proofs.Common.{refl, arith}
use Rattle.algorithms.proofs.remote_references.Rows.{all_cleared, cleared_more}
use Rattle.algorithms.proofs.remote_references.process_rows.remove_process.Goals as goal

pub loop-row-init : goal.loop-row-init
loop-row-init c = record { all = refl; first = λ k l. absurd (omega arith); rest = λ k l. refl }

pub loop-row-preserved : goal.loop-row-preserved
loop-row-preserved c =
    cleared_more _ _ _ _ c.row_without.result (omega (arith, c.loop-row-test.true, c.loop-row.auto.rows)) c.loop-row.invariant c.row_without.ensures

pub returns-clause-rows : goal.returns-clause-rows
returns-clause-rows c = λ holds before. all_cleared _ _ c.args.p _ holds (omega (arith, c.loop-row-test.false, c.loop-row.auto.rows)) c.loop-row.invariant before
