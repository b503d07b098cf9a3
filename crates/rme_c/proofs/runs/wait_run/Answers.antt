use Rattle.std.proofs.Common.{sym, ◌∙◌}
use Rattle.rme_c.proofs.RunCodes.{looks_at, marks_at}
use Rattle.rme_c.proofs.RunFeeds.{look_next, mark_next, none_left}
use Rattle.rme_c.proofs.runs.wait_run.Goals as goal

pub returns-in-Some-clause-is : goal.returns-in-Some-clause-is
returns-in-Some-clause-is c = look_next c.args.p.now c.args.next c.args.number c.in-Some.j c.args.looked _ c.look_run.ensures (sym c.first_other.ensures.first ∙ c.in-Some.is) c.in-Some.ensures.left

pub returns-in-Some-clause-next : goal.returns-in-Some-clause-next
returns-in-Some-clause-next c = c.look_run.ensures ∙ looks_at c.args.p.now.limit c.args.number c.in-Some.j _ c.args.looked (sym c.first_other.ensures.first ∙ c.in-Some.is)

pub returns-in-None-clause-is : goal.returns-in-None-clause-is
returns-in-None-clause-is c = mark_next c.args.p.now _ c.args.number c.args.looked (none_left _ (sym c.first_other.ensures.first ∙ c.in-None.is))

pub returns-in-None-clause-next : goal.returns-in-None-clause-next
returns-in-None-clause-next c = marks_at c.args.p.now.limit c.args.number _ c.args.looked (none_left _ (sym c.first_other.ensures.first ∙ c.in-None.is))
