use Rattle.robust.proofs.Common.{all_some, looked}
use Rattle.robust.proofs.member_gather.read.Goals as goal

pub look-requires-clause-some : goal.look-requires-clause-some
look-requires-clause-some c = all_some c.args.setup.now c.args.seat.now.me.0.view c.requires.all

pub returns-clause-looked : goal.returns-clause-looked
returns-clause-looked c = looked c.args.setup.now c.args.seat.now.me.0 c.look.new.seat.me.0 c.args.word c.look.result c.requires.all c.look.ensures.did
