use Rattle.lock_commands.proofs.CutShort.{cut_short}
use Rattle.lock_commands.proofs.session_command.plays.Goals as goal

pub returns-clause-refused : goal.returns-clause-refused
returns-clause-refused c =
    cut_short (record { taken = c.new-page.result.bytes.items; failures = c.new-page.result.failures })
    (record { taken = c.replay_on.new.w.bytes.items; failures = c.replay_on.new.w.failures })
    c.args.schedule.now c.in_ok-judge.judge c.in_ok-world.world c.in-Err.fault c.on_page.result c.in_ok-world.ensures.made c.in_ok-judge.ensures.made
    c.in-Err.ensures.replay c.on_page.ensures
