use Rattle.std.proofs.Common.{sym}
use Rattle.schedule.specs.Verdicts.{number_of_fault}
use Rattle.crashlab.proofs.hunts.Found.{found_wrong}
use Rattle.crashlab.proofs.minimization.Needed.{not_fine}
use Rattle.crashlab.proofs.minimization.whole.shrink_found.Goals as goal

pub unreachable-requires : goal.unreachable-requires
unreachable-requires c =
    let fine = rw c.in-Ok-None.field-0-is at c.in-Ok-None.ensures in
    not_fine c.args.variant (number_of_fault c.requires.fault) c.args.found.now (fine.0, sym fine.1) (found_wrong c.args.variant c.args.found.now c.can_be_spelled.ensures c.requires)
