use Rattle.std.proofs.Common.{◌∷◌}
use Rattle.crashlab.specs.hunts.Draws.{Falls}
use Rattle.crashlab.proofs.hunts.Observed.{observes_each}
use Rattle.crashlab.proofs.hunts.observer.Observer.note_system_crash.Goals as goal

pub returns : goal.returns
returns c = λ seen observes.
    observes_each (λ before. Falls ∷ before) seen _ (c.note_crash-3.ensures _ (c.note_crash-2.ensures _ (c.note_crash.ensures seen observes)))
