use Rattle.std.proofs.Common.{IfOk, subst, sym}
use Rattle.crashlab.specs.minimization.Least.{IsShrunk}
use Rattle.crashlab.proofs.minimization.Shrunk.{shrunk_on}
use Rattle.crashlab.proofs.minimization.minimizer.minimize.Goals as goal

pub make_least-requires : goal.make_least-requires
make_least-requires g c = subst (λ k. g.O.Oracle.is_wrong k c.in_ok-short.short) (sym c.in_ok-short.ensures.same) c.in_ok-short.ensures.like.wrong

pub returns : goal.returns
returns g c =
    shrunk_on (g.O.Oracle.is_wrong (g.O.Oracle.criterion_of c.args.oracle.now)) c.args.schedule.now c.in_ok-short.short c.make_least.result c.in_ok-short.ensures.like
    (subst (λ k. IfOk c.make_least.result (IsShrunk (g.O.Oracle.is_wrong k) c.in_ok-short.short)) c.in_ok-short.ensures.same c.make_least.ensures)
