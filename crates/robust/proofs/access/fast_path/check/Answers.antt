use Rattle.std.proofs.Common.{refl, arith}
use Rattle.robust.proofs.AccessCommon.{size_is}
use Rattle.robust.proofs.Straight.{check_goes}
use Rattle.robust.proofs.access.fast_path.check.Goals as goal

pub returns-clause-at : goal.returns-clause-at
returns-clause-at c = check_goes c.args.port.now c.load.new.self c.load.result _ refl c.requires.at c.load.ensures

pub load-requires-clause-table : goal.load-requires-clause-table
load-requires-clause-table c = let s = size_is c.args.port.now.setup.layout in omega arith
