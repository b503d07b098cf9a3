use Rattle.std.proofs.Common.{sym, ◌∙◌}
use Rattle.rme_c.proofs.Feeds.{lands_fed}
use Rattle.rme_c.proofs.Locks.{idle_access}
use Rattle.rme_c.proofs.lock_arms.scan_feed.Goals as goal

pub returns-in-Some-clause-fed : goal.returns-in-Some-clause-fed
returns-in-Some-clause-fed c =
    let p = c.args.p.now in
    let is = c.in-Some.ensures in
    lands_fed p c.args.stage c.args.value c.in-Some.landing c.scan_step.new.p _ c.scan_step.new.next c.requires.here c.requires.fits (sym (idle_access p.limit p.procs p.index c.args.stage) ∙ is.busy) is.place is.done is.blocked is.numbers
