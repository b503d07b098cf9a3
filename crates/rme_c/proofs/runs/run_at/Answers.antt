use Rattle.rme_c.proofs.RunFeeds.{opens_next}
use Rattle.rme_c.proofs.runs.run_at.Goals as goal

pub returns-in-Opening-clause-is : goal.returns-in-Opening-clause-is
returns-in-Opening-clause-is c = rw c.in-Opening.is (opens_next c.args.p.now)
