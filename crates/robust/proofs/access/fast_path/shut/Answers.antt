use Rattle.robust.proofs.Straight.{shut_again}
use Rattle.robust.proofs.access.fast_path.shut.Goals as goal

pub returns : goal.returns
returns c = record { way = shut_again c.args.port.now c.store.new.self c.by-own.result c.by-own.ensures.is c.args.number c.requires.at c.store.ensures }
