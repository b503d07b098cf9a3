use Rattle.judge.proofs.Common.{get_or_default, Keeps}
use Rattle.std.proofs.Common.{◌<◌, ◌+◌, ◌==◌, ◌∙◌, ap, length, arith, sym, subst}
use Rattle.judge.proofs.judge.Judge.is_next.Goals as goal

pub index-requires : goal.index-requires
index-requires c = omega (arith, c.requires, ap (λ j. j.procs) c.self.view_is, c.self.invariant.counts, c.self.inside.counts.ok.0)

pub overflow_add-result : goal.overflow_add-result
overflow_add-result c =
    let below : c.args.p < c.self.inside.procs = omega (arith, c.requires, ap (λ j. j.procs) c.self.view_is) in
    let within : c.args.p < length c.self.inside.counts.items = omega (arith, below, c.self.invariant.counts) in
    let count = c.index.ensures ∙ get_or_default c.self.inside.counts.items c.args.p c.index.result.now 0 within in
    omega (arith, count, c.self.invariant.counts_low c.args.p below, c.self.invariant.shown_low, c.self.invariant.small)

pub returns : goal.returns
returns c = λ s k.
    let k' : Keeps _ s = subst (λ j. Keeps j s) (sym c.self.view_is) k in
    let below : c.args.p < s.procs = omega (arith, c.requires, k.procs) in
    ap (λ n. c.args.seq == n + 1) (c.index.ensures ∙ k'.counts c.args.p c.index.result.now below)
