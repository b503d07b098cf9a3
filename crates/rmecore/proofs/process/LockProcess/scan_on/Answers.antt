use Rattle.rmecore.proofs.Accesses.{all_allowed}
use Rattle.rmecore.proofs.process.LockProcess.scan_on.Goals as goal

pub returns-clause-allowed : goal.returns-clause-allowed
returns-clause-allowed c = all_allowed c.args.self.now
