use Rattle.schedule.proofs.Playing.{silently}
use Rattle.schedule.proofs.player.machine.AnyAutomaton.take_silent_step.Goals as goal

pub returns-clause-silent : goal.returns-clause-silent
returns-clause-silent g c is =
    silently g.M.Machine.behaviour c.args.self.now _ c.args.p (c.step_silently.ensures.accepted is) (c.step_silently.ensures.silent is) (c.step_silently.ensures.ok is)
