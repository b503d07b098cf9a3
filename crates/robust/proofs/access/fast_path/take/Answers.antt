use Rattle.robust.proofs.Straight.{number_taken}
use Rattle.robust.proofs.access.fast_path.take.Goals as goal

pub returns : goal.returns
returns c = record { way = number_taken c.args.port.now c.store.new.self c.by-own.result c.by-own.ensures.is c.args.greatest c.requires.below c.requires.at c.store.ensures }
