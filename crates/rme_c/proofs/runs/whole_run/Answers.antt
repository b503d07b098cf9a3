use Rattle.std.proofs.Common.{rules, ◌≡◌, false, None, refl, sym, ap, ◌∙◌}
use Rattle.rme_c.proofs.Common.{Lock, position_of, above, first}
use Rattle.rmecore.specs.declared.stage.Stage.TheVariants as stage
use Rattle.rme_c.proofs.RunCodes.{door_busy, wait_busy}
use Rattle.rme_c.proofs.RunFeeds.{none_left}
use Rattle.rme_c.proofs.runs.whole_run.Goals as goal

pub returns-in-None-clause-busy : goal.returns-in-None-clause-busy
returns-in-None-clause-busy c = λ some. door_busy c.args.p.now c.in-Door.from c.in-Door.greatest (c.requires.here ∙ ap Lock c.in-Door.is) (none_left _ (sym c.first_other.ensures.first ∙ c.in-None.is)) c.if-greatest-p.true

pub returns-in-None-first_other-clause-busy : goal.returns-in-None-first_other-clause-busy
returns-in-None-first_other-clause-busy c =
    let x = c.in-Wait-default-default-false in
    let here : position_of c.args.p.now ≡ Lock (stage.Wait x.number x.from false) = search (rules, c.requires.here, x.is, x.looked-is, x.looked-test) in
    let read : first (above c.args.p.now.procs c.args.p.now.index x.from) ≡ None = search (rules, c.first_other-in-Wait-default-default-false.ensures.first, c.in-None-first_other.is, x.from-is) in
    λ some. wait_busy c.args.p.now x.number x.from false here refl (none_left _ read)
