use Rattle.std.proofs.Common.{sym}
use Rattle.redomail.proofs.Wants.{stage_wants}
use Rattle.redomail.proofs.stage.JobStage.reply.Goals as goal

pub returns-in_default : goal.returns-in_default
returns-in_default c = λ l p fits. sym (stage_wants l p c.args.self.now fits (λ a is. c.in_default.not-Ended a is))
