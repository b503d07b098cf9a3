use Rattle.std.proofs.Common.{◌∙◌, List, ap, subst}
use Rattle.std.specs.List.{flat_map}
use Rattle.algorithm_lab.specs.Runs.{monitor_transitions}
use Rattle.schedule.specs.Fragments.{itself, run_on}
use Rattle.schedule.specs.Plays.{PlaysAll}
use Rattle.diagram.proofs.AlgorithmEventLists.{run_recorded}
use Rattle.diagram.proofs.Common.{Line}
use Rattle.diagram.specs.AlgorithmEventEffects.{event_list_effects}
use Rattle.diagram.specs.AlgorithmEventLists.{kept_reports}
use Rattle.diagram.proofs.algorithm.event_list.record_run.Goals as goal

pub returns : goal.returns
returns c =
    let m = c.args.monitor.now in
    let left = c.hear_lines.new.monitor in
    let list = c.hear_lines.new.listener in
    let refused = c.in_ok-refused.refused in
    let plays = subst (λ (lines : List Line). PlaysAll event_list_effects c.new-list.result list (run_on monitor_transitions itself 2 m lines) left refused) c.lines.ensures c.in_ok-refused.ensures in
    run_recorded c.new-list.result list m c.args.schedule.now.lines left refused c.in_ok-reports.reports.items plays c.new-list.ensures (c.in_ok-reports.ensures ∙ ap (flat_map kept_reports) c.as_slice.ensures.value)
