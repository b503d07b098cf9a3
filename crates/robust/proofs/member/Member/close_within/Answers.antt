use Rattle.std.proofs.Common.{ap, ◌∙◌}
use Rattle.robust.proofs.Common.{Close, seat_of}
use Rattle.robust.proofs.Working.{within_seat}
use Rattle.robust.proofs.member.Member.close_within.Goals as goal

pub returns-clause-accepted : goal.returns-clause-accepted
returns-clause-accepted g c = rw (← c.self.view_is) c.mail_within.ensures.accepted

pub returns-clause-replied : goal.returns-clause-replied
returns-clause-replied g c = rw (← c.self.view_is) c.mail_within.ensures.replied

pub returns-clause-fails : goal.returns-clause-fails
returns-clause-fails g c = rw (← c.self.view_is) c.mail_within.ensures.fails

pub returns-clause-few : goal.returns-clause-few
returns-clause-few g c = rw (← c.self.view_is) c.mail_within.ensures.few

pub returns-clause-few_out : goal.returns-clause-few_out
returns-clause-few_out g c = rw (← c.self.view_is) c.mail_within.ensures.few_out

pub returns-clause-out : goal.returns-clause-out
returns-clause-out g c = c.mail_within.ensures.out

pub returns-clause-waits : goal.returns-clause-waits
returns-clause-waits g c = c.mail_within.ensures.waits

pub returns-clause-seat : goal.returns-clause-seat
returns-clause-seat g c =
    within_seat c.self.inside.call_driver c.mail_within.new.self c.args.turns Close _ _ c.mail_within.result c.mail_within.ensures.replied c.mail_within.ensures.fails ∙ ap seat_of c.self.view_is
