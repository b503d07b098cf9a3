use Rattle.std.proofs.Common.{ap, ◌∙◌}
use Rattle.crashlab.proofs.Common.{MachineState, outside_at}
use Rattle.crashlab.proofs.variants.variant_process.lock_rows.feed_outside.Goals as goal

pub returns : goal.returns
returns c = c.machine_state_outside.ensures ∙ ap (outside_at c.feed.new.self) c.stage_of-stage.ensures ∙ ap (λ (s : MachineState). outside_at s s.lock) c.feed.ensures.exact
