use Rattle.std.proofs.Common.{ap}
use Rattle.crashlab.proofs.Common.{MachineState}
use Rattle.crashlab.proofs.variants.variant_process.lock_rows.stage_of.Goals as goal

pub returns : goal.returns
returns c = ap (λ (s : MachineState). s.lock) c.seam_memory.ensures
