use Rattle.std.proofs.Common.{◌∙◌, ap}
use Rattle.judge.proofs.Common.{get_or_default, Out, is_ready}
use Rattle.judge.proofs.Bits.{Filled-more}
use Rattle.judge.proofs.rows.ready_row.Goals as goal

pub loop-q-preserved : goal.loop-q-preserved
loop-q-preserved c =
    Filled-more _ _ _ _ c.is_ready.result
    (c.is_ready.ensures ∙ ap is_ready (get_or_default c.args.phases.now c.loop-q.q _ Out c.loop-q-test.true))
    c.flag-row.ensures.bit c.flag-row.ensures.others c.loop-q.invariant
