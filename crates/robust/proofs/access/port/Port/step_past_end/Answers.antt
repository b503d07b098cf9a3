use Rattle.std.proofs.Common.{ap}
use Rattle.robust.proofs.AccessCommon.{seat_view_as}
use Rattle.robust.proofs.access.port.Port.step_past_end.Goals as goal

pub step_past_end-requires-clause-may : goal.step_past_end-requires-clause-may
step_past_end-requires-clause-may c =
    seat_view_as _ c.args.self.now c.self.inside.seat.me.0 c.args.kind c.args.word c.args.value c.self.view_is (ap (λ m. m.0) c.self.invariant.seat) c.self.invariant.seat_view c.requires.beyond c.requires.zero c.requires.may
