use Rattle.std.proofs.Common.{arith}
use Rattle.schedule.proofs.Fed.{fed_none}
use Rattle.schedule.proofs.replays.stage.TraceStage.take_leading_lines.Goals as goal

pub returns-in_default : goal.returns-in_default
returns-in_default c = record { stage = c.requires; fed = fed_none c.args.self.now c.args.text.now c.args.number.now; shorter = omega arith }
