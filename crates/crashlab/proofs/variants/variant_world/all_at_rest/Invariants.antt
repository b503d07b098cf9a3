use Rattle.std.proofs.Common.{◌≡◌}
use Rattle.crashlab.proofs.Common.{at_rest_from}
use Rattle.crashlab.proofs.variants.variant_world.all_at_rest.Given as goal

abbrev pub invariant-loop-index : goal.invariant-loop-index
invariant-loop-index l = l.processes.items ≡ at_rest_from l.variant l.layout l.limit 0 l.index
