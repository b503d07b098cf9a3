use Rattle.std.proofs.Common.{◌≡◌, ◌≤◌, ◌∙◌, ap, length, arith, sym, subst}
use Rattle.judge.proofs.Common.{Lists, Keeps}
use Rattle.judge.proofs.Writes.{Lists-set, HasRows-set}
use Rattle.judge.proofs.judge.Judge.begin.Goals as goal

pub returns : goal.returns
returns c = λ s k.
    let k' : Keeps _ s = subst (λ j. Keeps j s) (sym c.self.view_is) k in
    let le : s.procs ≤ length c.self.inside.phases.items = omega (arith, k'.procs, c.self.invariant.phases) in
    let len : length c.deref.result.now ≡ s.procs = ap length c.deref.ensures.value ∙ (c.self.invariant.phases ∙ k'.procs) in
    let ready = c.ready_row.ensures s.procs s.lock.phase len (subst (λ xs. Lists xs s.procs s.lock.phase) (sym c.deref.ensures.value) k'.phases) in
    let wide : s.procs ≤ length c.self.inside.ahead.items = omega (arith, k'.procs, c.self.invariant.ahead) in
    record {
      procs = k'.procs;
      cap = k'.cap;
      most_inside = k'.most_inside;
      phases = Lists-set c.self.inside.phases.items s.procs c.args.p s.lock.phase _ le k'.phases;
      ahead = HasRows-set c.self.inside.ahead.items s.procs c.args.p s.lock.ahead _ c.ready_row.result wide k'.ahead ready;
      counts = k'.counts;
      shown = k'.shown;
      pending = k'.pending;
      closed = k'.closed;
      ruined = k'.ruined;
    }
