use Rattle.std.proofs.Common.{◌∙◌, ap, subst}
use Rattle.judge.proofs.Common.{is_dead_in, IsSound}
use Rattle.judge.proofs.Exclusion.{count_below-by}
use Rattle.judge.proofs.Writes.{phases_kept}
use Rattle.judge.proofs.judge.Judge.count_dead_in.Goals as goal

pub returns-clause-count : goal.returns-clause-count
returns-clause-count c = λ s k.
    let h = phases_kept c.deref.result.now c.args.self.now s (c.deref.ensures.value ∙ ap (λ j. j.phases) c.self.view_is)
    (subst IsSound c.self.view_is c.self.invariant) k in
    c.count_dead_in.ensures ∙ count_below-by is_dead_in c.deref.result.now s.procs s.lock.phase h.0 h.1
