use Rattle.std.proofs.Common.{subst, arith}
use Rattle.robust.proofs.AccessCommon.{InTable}
use Rattle.table_runs.proofs.Opens.{size_small}
use Rattle.robust.proofs.access.port.index.Goals as goal

pub overflow_add-result-in-Data : goal.overflow_add-result-in-Data
overflow_add-result-in-Data c =
    let s = size_small c.args.setup.now.layout c.requires.size.layout in
    let t = subst (InTable c.args.setup.now) c.in-Data.is c.requires.table in
    omega (arith, s, c.requires.size.layout.few, t)
