use Rattle.std.proofs.Common.{[], ◌∷◌}
use Rattle.schedule.proofs.Heard.{hears_on}
use Rattle.schedule.proofs.replays.running_verdict.RunningVerdict.hear.Goals as goal

pub returns-in-Against : goal.returns-in-Against
returns-in-Against c =
    hears_on c.args.judge.now c.args.self.now c.in-Against.at c.in-Against.fault (c.args.deed.now ∷ []) c.in-Against.is
