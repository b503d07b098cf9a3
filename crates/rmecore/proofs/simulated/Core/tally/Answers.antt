use Rattle.rmecore.proofs.CoreTallies.{takes_fewer}
use Rattle.rmecore.proofs.simulated.Core.tally.Goals as goal

pub returns-in-Some-clause-most : goal.returns-in-Some-clause-most
returns-in-Some-clause-most c = rw (← c.self.view_is) (λ exact below busy. takes_fewer _ _ _ c.self.invariant.tallied c.args.p exact below busy)

pub returns-in-None-clause-most : goal.returns-in-None-clause-most
returns-in-None-clause-most c = rw (← c.self.view_is) (λ exact below busy. takes_fewer _ _ _ c.self.invariant.tallied c.args.p exact below busy)
