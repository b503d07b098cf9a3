use Rattle.crashlab.proofs.variants.variant_process.lock_rows.machine_state_outside.Goals as goal

pub returns : goal.returns
returns c = c.seam_set.ensures.set (c.seam_set.ensures.held.1 tt)
