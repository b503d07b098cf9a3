use Rattle.std.proofs.Common.{rules}
use Rattle.crashlab.proofs.variants.Rests.{rest_more}
use Rattle.crashlab.proofs.variants.variant_world.all_at_rest.Goals as goal

pub loop-index-preserved : goal.loop-index-preserved
loop-index-preserved c =
    let more = rest_more c.args.variant c.args.layout c.args.limit 0 c.loop-index.index in search (rules, more)
