use Rattle.std.proofs.Common.{◌≤◌, length, arith, sym, subst}
use Rattle.judge.proofs.Common.{Keeps}
use Rattle.judge.proofs.Writes.{Lists-set}
use Rattle.judge.proofs.judge.Judge.move_to.Goals as goal

pub returns : goal.returns
returns c = λ s k.
    let k' : Keeps _ s = subst (λ j. Keeps j s) (sym c.self.view_is) k in
    let le : s.procs ≤ length c.self.inside.phases.items = omega (arith, k'.procs, c.self.invariant.phases) in
    record {
      procs = k'.procs;
      cap = k'.cap;
      most_inside = k'.most_inside;
      phases = Lists-set c.self.inside.phases.items s.procs c.args.p s.lock.phase _ le k'.phases;
      ahead = k'.ahead;
      counts = k'.counts;
      shown = k'.shown;
      pending = k'.pending;
      closed = k'.closed;
      ruined = k'.ruined;
    }
