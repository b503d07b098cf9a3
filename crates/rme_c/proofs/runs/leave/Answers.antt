use Rattle.std.proofs.Common.{refl, arith}
use Rattle.rme_c.proofs.RunFeeds.{leaving_at}
use Rattle.rme_c.proofs.WholeCalls.{begun, leaves, unlocked}
use Rattle.rme_c.proofs.runs.leave.Goals as goal

pub stage_feed-requires-clause-here : goal.stage_feed-requires-clause-here
stage_feed-requires-clause-here c = leaving_at (begun c.args.p.now) c.at-p.result 1 c.requires.below c.requires.few (omega arith) (rw c.at-p.ensures refl)

pub returns-clause-left : goal.returns-clause-left
returns-clause-left c =
    leaves c.args.p.now c.requires.here c.requires.mended c.at-p.result _ _ _ _ c.requires.below c.requires.few (rw c.at-p.ensures refl) c.stage_feed.ensures c.requires.sized

pub returns-clause-unlocked : goal.returns-clause-unlocked
returns-clause-unlocked c =
    unlocked c.args.p.now c.requires.here c.requires.mended c.at-p.result _ _ _ _ c.requires.below c.requires.few (rw c.at-p.ensures refl) c.stage_feed.ensures
