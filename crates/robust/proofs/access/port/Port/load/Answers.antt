use Rattle.std.proofs.Common.{ap}
use Rattle.robust.proofs.AccessCommon.{load_as}
use Rattle.robust.proofs.access.port.Port.load.Goals as goal

pub load-found-requires-clause-may : goal.load-found-requires-clause-may
load-found-requires-clause-may c =
    load_as _ c.args.self.now c.self.inside.seat.me.0 c.args.kind c.args.word c.index-at.result c.self.view_is (ap (λ m. m.0) c.self.invariant.seat) c.self.invariant.seat_view c.requires.table c.index-at.ensures.index c.requires.kind c.requires.may
