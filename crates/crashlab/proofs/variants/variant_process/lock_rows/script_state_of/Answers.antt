use Rattle.std.proofs.Common.{ap}
use Rattle.crashlab.proofs.Common.{MachineState}
use Rattle.crashlab.proofs.variants.variant_process.lock_rows.script_state_of.Goals as goal

pub returns : goal.returns
returns c = ap (λ (s : MachineState). s.script_state) c.seam_memory.ensures
