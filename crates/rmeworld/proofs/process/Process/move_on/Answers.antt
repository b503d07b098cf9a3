use Rattle.std.proofs.Common.{refl, ap, ◌∙◌}
use Rattle.rmeworld.proofs.Common.{process_state_of}
use Rattle.rmeworld.proofs.Chores.{part_allowed, part_progress, part_moved, part_goes}
use Rattle.rmeworld.proofs.process.Process.move_on.Goals as goal

pub returns-clause-allowed : goal.returns-clause-allowed
returns-clause-allowed c = part_allowed c.self.view_is c.self.inside.lock c.self.invariant.procs refl c.self.invariant.index refl c.requires c.args.value c.lock_step-mended.ensures.allowed

pub returns-clause-progress : goal.returns-clause-progress
returns-clause-progress c = part_progress c.self.view_is c.self.inside.lock c.self.invariant.procs refl c.self.invariant.index refl c.requires c.args.value _ c.lock_step-mended.ensures.progress

pub returns-clause-exact : goal.returns-clause-exact
returns-clause-exact c = part_moved c.self.view_is c.self.inside.lock c.self.invariant.procs refl c.self.invariant.index refl c.requires c.args.value _ _ _ _ c.lock_step-mended.ensures.lock c.lock_step-mended.ensures.mended c.lock_step-mended.ensures.checks c.check_next.ensures

pub returns-clause-process_state : goal.returns-clause-process_state
returns-clause-process_state c = ap process_state_of (returns-clause-exact c) ∙ part_goes c.self.view_is c.self.inside.lock c.self.invariant.procs refl c.self.invariant.index refl c.requires c.args.value c.lock_step-mended.ensures.allowed
