use Rattle.std.proofs.Common.{sym, ◌∙◌}
use Rattle.rme_c.proofs.RunFeeds.{peeks_next, takes_next, none_left}
use Rattle.rme_c.proofs.runs.door_run.Goals as goal

pub returns-in-Some-clause-is : goal.returns-in-Some-clause-is
returns-in-Some-clause-is c = peeks_next c.args.p.now c.args.next c.args.greatest c.in-Some.j (sym c.first_other.ensures.first ∙ c.in-Some.is) c.in-Some.ensures.left

pub returns-in-None-clause-is : goal.returns-in-None-clause-is
returns-in-None-clause-is c = takes_next c.args.p.now _ c.args.greatest (none_left _ (sym c.first_other.ensures.first ∙ c.in-None.is)) c.if-greatest-p.true
