use Rattle.robust.proofs.Straight.{marked}
use Rattle.robust.proofs.access.fast_path.mark.Goals as goal

pub returns-clause-comes : goal.returns-clause-comes
returns-clause-comes c = marked c.args.port.now c.store.new.self c.by-own.result c.by-own.ensures.is c.args.number c.requires.at c.store.ensures
