use Rattle.std.proofs.Common.{refl}
use Rattle.robust.proofs.Waits.{looked_at}
use Rattle.robust.proofs.access.in_line.look.Goals as goal

pub returns-clause-at : goal.returns-clause-at
returns-clause-at c = looked_at c.args.port.now c.args.number c.args.j c.requires.other.0 c.requires.other.1 c.load-value.new.self _ c.load-value.result _ refl c.requires.at c.load-value.ensures
