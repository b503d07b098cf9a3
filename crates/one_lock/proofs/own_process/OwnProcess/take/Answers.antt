use Rattle.std.proofs.Common.{subst}
use Rattle.rmeworld.specs.WorldState.{HasConfiguration}
use Rattle.one_lock.proofs.Common.{Trail}
use Rattle.one_lock.proofs.OwnSteps.{kept_by_step}
use Rattle.one_lock.proofs.own_process.OwnProcess.take.Goals as goal

pub returns-then-ne-clause-sizes : goal.returns-then-ne-clause-sizes
returns-then-ne-clause-sizes c =
    subst (λ (t : Trail). HasConfiguration t.machine.layout t.machine.limit t.machine.index c.feed-outcome.new.self) c.self.view_is (kept_by_step c.self.inside.process c.feed-outcome.new.self _ c.feed-outcome.ensures.exact)

pub returns-clause-sizes : goal.returns-clause-sizes
returns-clause-sizes c =
    subst (λ (t : Trail). HasConfiguration t.machine.layout t.machine.limit t.machine.index c.feed-outcome.new.self) c.self.view_is (kept_by_step c.self.inside.process c.feed-outcome.new.self _ c.feed-outcome.ensures.exact)
