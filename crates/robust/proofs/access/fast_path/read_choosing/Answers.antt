use Rattle.robust.proofs.Straight.{choosing_read}
use Rattle.robust.proofs.access.fast_path.read_choosing.Goals as goal

pub returns : goal.returns
returns c = record { way = choosing_read c.args.port.now c.load.new.self c.by-own.result c.by-own.ensures.is c.load.result c.requires.at c.load.ensures }
