use Rattle.std.proofs.Common.{refl, ◌∙◌, subst}
use Rattle.crashlab.specs.minimization.Least.{IsSmaller}
use Rattle.crashlab.proofs.minimization.Shrunk.{like_self, like_less}
use Rattle.crashlab.proofs.minimization.least.make_least.Goals as goal

pub loop-now-init : goal.loop-now-init
loop-now-init g c = record { like = like_self (g.O.Oracle.is_wrong (g.O.Oracle.criterion_of c.args.oracle.now)) c.args.schedule c.requires; same = refl }

pub loop-now-preserved : goal.loop-now-preserved
loop-now-preserved g c =
    record {
      like = like_less (g.O.Oracle.is_wrong (g.O.Oracle.criterion_of c.args.oracle.now)) c.args.schedule c.loop-now.now c.in-Some.found c.loop-now.invariant.like
          (subst (λ k. IsSmaller (g.O.Oracle.is_wrong k) c.loop-now.now c.in-Some.found) c.loop-now.invariant.same (rw c.in-Some.is at c.in_ok-found.ensures.found));
      same = c.in_ok-found.ensures.same ∙ c.loop-now.invariant.same;
    }
