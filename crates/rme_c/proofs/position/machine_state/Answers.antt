use Rattle.rme_c.proofs.Numbers.{stands}
use Rattle.rme_c.proofs.position.machine_state.Goals as goal

pub returns-clause-is : goal.returns-clause-is
returns-clause-is c = stands (record c.args.p.now { position = c.numbers-p.result }) c.args.position c.requires c.numbers-p.ensures
