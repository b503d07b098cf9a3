use Rattle.std.proofs.Common.{sym, subst}
use Rattle.one_lock.proofs.Common.{HasExecution}
use Rattle.one_lock.proofs.Executions.{reported_first}
use Rattle.one_lock.proofs.shared.Shared.new.Goals as goal

pub invariant_of-result : goal.invariant_of-result
invariant_of-result g c = (subst (HasExecution c.args.world) (sym c.requires.book) (reported_first c.args.world c.requires.world), c.requires.sizes)
