use Rattle.schedule.proofs.Fragments.{run_reported}
use Rattle.algorithm_lab.proofs.Runs.{adds_run}
use Rattle.algorithm_lab.specs.Runs.{event_reports, monitor_transitions}
use Rattle.algorithm_lab.proofs.line_play.play_lines.Goals as goal

pub returns : goal.returns
returns c =
    let all = adds_run _ _ _ _ _ c.hear_lines.result (run_reported monitor_transitions event_reports 2 c.args.monitor.now c.args.lines.now) c.hear_lines.ensures in
    record { run = all.0; refused = all.1 }
