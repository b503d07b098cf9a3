use Rattle.std.proofs.Common.{subst}
use Rattle.rmeworld.proofs.Common.{IsLegalHistory}
use Rattle.rmeworld.proofs.LawfulNow.{history_is_legal}
use Rattle.rmeworld.proofs.world.World.history.Goals as goal

pub returns-clause-legal : goal.returns-clause-legal
returns-clause-legal c = subst IsLegalHistory c.self.view_is (history_is_legal _ c.self.invariant)
