use Rattle.algorithm_lab.specs.Runs.{run_on}
use Rattle.algorithm_commands.proofs.AlgorithmReplays.{object_made}
use Rattle.algorithm_commands.proofs.algorithm_replay_command.object_of_run.Goals as goal

pub returns : goal.returns
returns c =
    let replay = c.in_ok-replay.replay in
    object_made (run_on 2 c.args.monitor c.args.schedule.now.lines) replay.text.items c.in_ok-text.text.items replay.ended c.in_ok-replay.ensures c.in_ok-text.ensures
