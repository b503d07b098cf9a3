use Rattle.std.proofs.Common.{All, sym, subst}
use Rattle.robust.proofs.Common.{IsNew, sizes_of}
use Rattle.robust.proofs.Worked.{fresh_new}
use Rattle.robust.proofs.lab.lab_run.make_members.Goals as goal

pub returns-in-Ok-clause-new : goal.returns-in-Ok-clause-new
returns-in-Ok-clause-new g c =
    let z = sizes_of c.args.spec in
    let made = c.in-Ok.ensures.made in subst (All (IsNew z)) (sym made.1) (fresh_new made.0 z)
