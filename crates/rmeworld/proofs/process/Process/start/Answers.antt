use Rattle.rmeworld.proofs.Common.{script_state_of}
use Rattle.redomail.proofs.Results.{always_err}
use Rattle.rmeworld.proofs.Chores.{refuses}
use Rattle.rmeworld.proofs.process.Process.start.Goals as goal

pub returns-in_err-check-clause-not_allowed : goal.returns-in_err-check-clause-not_allowed
returns-in_err-check-clause-not_allowed c = always_err c.from_residual.result _ (refuses c.args.self.now.layout c.args.self.now.index c.args.self.now.lock c.args.self.now.mended c.args.self.now.barred (script_state_of c.args.self.now.script_state) c.args.call c.in_err-check.field-0.0 c.in_err-check.ensures.refused)
