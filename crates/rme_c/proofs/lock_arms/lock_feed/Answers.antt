use Rattle.rme_c.proofs.Feeds.{lands_fed}
use Rattle.rme_c.proofs.lock_arms.lock_feed.Goals as goal

pub returns : goal.returns
returns c =
    lands_fed c.args.p.now c.args.stage c.args.value c.by_machine.result c.by_machine.new.p _ c.by_machine.new.next c.requires.here c.requires.fits c.requires.busy c.by_machine.ensures.place c.by_machine.ensures.done c.by_machine.ensures.blocked c.by_machine.ensures.numbers
