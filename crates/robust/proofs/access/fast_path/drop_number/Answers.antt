use Rattle.robust.proofs.Straight.{dropped}
use Rattle.robust.proofs.access.fast_path.drop_number.Goals as goal

pub returns : goal.returns
returns c = record { way = dropped c.args.port.now c.store.new.self c.by-own.result c.by-own.ensures.is c.requires.at c.store.ensures }
