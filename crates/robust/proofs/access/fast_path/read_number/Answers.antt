use Rattle.robust.proofs.Straight.{number_read}
use Rattle.robust.proofs.access.fast_path.read_number.Goals as goal

pub returns : goal.returns
returns c = record { way = number_read c.args.port.now c.load.new.self c.by-own.result c.by-own.ensures.is c.args.choosing c.load.result c.requires.at c.load.ensures }
