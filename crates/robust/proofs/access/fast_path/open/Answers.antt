use Rattle.robust.proofs.Straight.{opened}
use Rattle.robust.proofs.access.fast_path.open.Goals as goal

pub returns : goal.returns
returns c = record { way = opened c.args.port.now c.store.new.self c.by-own.result c.by-own.ensures.is c.requires.at c.store.ensures }
