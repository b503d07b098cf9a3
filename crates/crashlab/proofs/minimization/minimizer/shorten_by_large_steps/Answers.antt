use Rattle.crashlab.proofs.minimization.Shrunk.{like_copied}
use Rattle.crashlab.proofs.minimization.minimizer.shorten_by_large_steps.Goals as goal

pub returns-clause-like : goal.returns-clause-like
returns-clause-like g c = like_copied (g.O.Oracle.is_wrong (g.O.Oracle.criterion_of c.args.oracle.now)) c.args.schedule.now c.copy_of.result c.requires c.copy_of.ensures
