use Rattle.std.proofs.Common.{sym, ap, ◌∙◌, refl, false}
use Rattle.rmeworld.proofs.Common.{MachineState, process_state_of}
use Rattle.rmeworld.proofs.Chores.{part_moved, part_goes}
use Rattle.rmeworld.proofs.process.Process.feed_silently.Goals as goal

pub returns-in-Free-clause-exact : goal.returns-in-Free-clause-exact
returns-in-Free-clause-exact c = λ some.
    part_moved c.self.view_is c.self.inside.lock c.self.invariant.procs refl c.self.invariant.index refl (sym (ap (λ (s : MachineState). s.script_state) c.self.view_is) ∙ c.in-Free.is) c.args.value _ _ false _
    (c.lock_silently.ensures.lock some) (sym (c.lock_silently.ensures.mended some c.self.inside.mended)) (sym (c.lock_silently.ensures.checks some)) c.in-Free.is

pub returns-in-Free-clause-process_state : goal.returns-in-Free-clause-process_state
returns-in-Free-clause-process_state c = λ some. ap process_state_of (returns-in-Free-clause-exact c some) ∙ part_goes c.self.view_is c.self.inside.lock c.self.invariant.procs refl c.self.invariant.index refl (sym (ap (λ (s : MachineState). s.script_state) c.self.view_is) ∙ c.in-Free.is) c.args.value c.lock_silently.ensures.allowed
