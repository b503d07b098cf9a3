use Rattle.rme_c.proofs.RunFeeds.{locks_next}
use Rattle.rme_c.proofs.runs.first_run.Goals as goal

pub returns-in-Lock-clause-is : goal.returns-in-Lock-clause-is
returns-in-Lock-clause-is c = rw c.in-Lock.is (locks_next c.args.p.now c.if-p-gt0.true)
