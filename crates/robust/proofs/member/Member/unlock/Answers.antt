use Rattle.std.proofs.Common.{ap, ◌∙◌}
use Rattle.robust.proofs.Common.{seat_of}
use Rattle.robust.proofs.member.Member.unlock.Goals as goal

pub returns-clause-accepted : goal.returns-clause-accepted
returns-clause-accepted g c = rw (← c.self.view_is) c.in_ok-call.ensures.accepted

pub returns-clause-seat : goal.returns-clause-seat
returns-clause-seat g c = c.call.ensures.seat ∙ ap seat_of c.self.view_is

pub returns-clause-few : goal.returns-clause-few
returns-clause-few g c = rw (← c.self.view_is) c.call.ensures.few

pub returns-in_err-call-clause-seat : goal.returns-in_err-call-clause-seat
returns-in_err-call-clause-seat g c = c.call.ensures.seat ∙ ap seat_of c.self.view_is

pub returns-in_err-call-clause-few : goal.returns-in_err-call-clause-few
returns-in_err-call-clause-few g c = rw (← c.self.view_is) c.call.ensures.few
