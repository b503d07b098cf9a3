use Rattle.robust.proofs.Straight.{inside_read}
use Rattle.robust.proofs.access.fast_path.read_inside.Goals as goal

pub returns : goal.returns
returns c = record { way = inside_read c.args.port.now c.load.new.self c.by-own.result c.by-own.ensures.is c.load.result c.requires.at c.load.ensures }
