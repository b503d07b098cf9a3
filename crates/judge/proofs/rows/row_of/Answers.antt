use Rattle.judge.proofs.Sets.{HasBits-more}
use Rattle.judge.proofs.rows.row_of.Goals as goal

pub loop-name-preserved : goal.loop-name-preserved
loop-name-preserved c =
    HasBits-more c.loop-name.row c.flag-row.result c.loop-name.name-index c.args.names.now c.loop-name-test.true c.flag-row.ensures.bit c.flag-row.ensures.others c.loop-name.invariant
