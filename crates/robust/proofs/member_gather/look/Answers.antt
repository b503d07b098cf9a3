use Rattle.robust.proofs.Common.{may_glance}
use Rattle.robust.proofs.member_gather.look.Goals as goal

pub glance-requires-clause-may : goal.glance-requires-clause-may
glance-requires-clause-may c = may_glance c.args.seat.now.me.0.view c.args.setup.now c.args.word _ c.requires.setup c.requires.word c.index-at.ensures.index c.requires.some
