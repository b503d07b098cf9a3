use Rattle.std.proofs.Common.{[], ◌∷◌, ◌+◌, ◌==◌, nat_lt, ◌∙◌, ap}
use Rattle.judge.proofs.Common.{OutOfPlace, TwoInside, NotReentered, Overtaken, is_ready, first_fault}
use Rattle.judge.proofs.Exclusion.{entry-fault}
use Rattle.judge.proofs.judge.Judge.enter_fault.Goals as goal

pub returns : goal.returns
returns c = λ s k.
    let p = c.args.p in
    let ready = c.is_ready.ensures ∙ ap is_ready (c.phase.ensures s k) in
    let inside = c.count_inside-inside.ensures.count s k in
    let dead_in = c.count_dead_in.ensures.count s k in
    let most = ap (λ j. j.most_inside) c.self.view_is ∙ k.most_inside in
    let procs = ap (λ j. j.procs) c.self.view_is ∙ k.procs in
    let of = c.least_ahead-of.ensures s k in
    c.first_fault.ensures
    ∙ ((λ w. first_fault (
    (ready w, OutOfPlace)
    ∷ (nat_lt (inside w) (most w), TwoInside)
    ∷ (nat_lt (inside w + dead_in w) (most w), NotReentered)
    ∷ (of w == procs w, Overtaken p (of w))
    ∷ []))
    ∙ entry-fault s.most_inside s.procs s.lock p)
