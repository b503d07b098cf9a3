use Rattle.std.proofs.Common.{refl}
use Rattle.schedule.proofs.player.play_lines.play_line.Goals as goal

pub returns-in-Ok : goal.returns-in-Ok
returns-in-Ok g c =
    rw (c.in-Start.is, c.in-Ok.ensures.accepted) record { hears = refl; stands = c.in-Ok.ensures.ok; refused_is = refl }

pub returns-in-Err : goal.returns-in-Err
returns-in-Err g c =
    rw (c.in-Start.is, c.in-Err.ensures.refused) (record { hears = refl; stands = c.in-Err.ensures.err; refused_is = refl }, c.in-Err.ensures.memory)

pub returns-in-Step : goal.returns-in-Step
returns-in-Step g c = rw (c.in-Step.is, ← c.get.ensures.value) c.take_steps.ensures

pub returns-in-Crash : goal.returns-in-Crash
returns-in-Crash g c = rw c.in-Crash.is c.take_crash.ensures

pub returns-in-CrashAll : goal.returns-in-CrashAll
returns-in-CrashAll g c = rw c.in-CrashAll.is c.take_crashes.ensures
