use Rattle.schedule.proofs.CrashLines.{world_crash_all}
use Rattle.schedule.proofs.replays.laws.crash_all_is_each_crash.Goals as goal

pub returns : goal.returns
returns c = world_crash_all
