use Rattle.std.proofs.Common.{◌≡◌, ◌==◌, ◌||◌, true, refl, sym, ◌∙◌}
use Rattle.rme_c.proofs.Common.{Wait, is_before, wait_goes, standing_at}
use Rattle.rme_c.proofs.lock_arms.after_weigh.Goals as goal

pub returns-then-value-eq0-clause-place : goal.returns-then-value-eq0-clause-place
returns-then-value-eq0-clause-place c =
    let p = c.args.p.now in
    let less : ((c.args.value == 0) || is_before c.args.number p.index c.args.value c.args.j) ≡ true = rw c.if-value-eq0.true refl in
    rw c.looks_from.ensures.to (sym (wait_goes (standing_at p (Wait c.args.number c.args.from true)) c.args.number c.args.from c.args.j c.args.value true c.requires.first refl less))

pub returns-then-passes-clause-place : goal.returns-then-passes-clause-place
returns-then-passes-clause-place c =
    rw c.looks_from-then-passes.ensures.to (sym (wait_goes (standing_at c.args.p.now (Wait c.args.number c.args.from true)) c.args.number c.args.from c.args.j c.args.value true c.requires.first refl (sym c.passes.ensures ∙ c.if-passes.true)))
