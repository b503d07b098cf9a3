use Rattle.std.proofs.Common.{List, ap, ◌∙◌, subst}
use Rattle.algorithms.specs.Worlds.{AlgorithmWorldState}
use Rattle.algorithm_lab.specs.Reports.{verdict_of}
use Rattle.algorithm_lab.specs.Runs.{monitor_transitions}
use Rattle.algorithm_lab.specs.declared.run_report.TextReport.{TextReport}
use Rattle.schedule.specs.Fragments.{itself, run_on}
use Rattle.schedule.specs.Plays.{PlaysAll}
use Rattle.diagram.proofs.AlgorithmRowEffects.{draws_run}
use Rattle.diagram.proofs.Common.{Line}
use Rattle.diagram.specs.AlgorithmRowEffects.{algorithm_row_effects}
use Rattle.diagram.proofs.algorithm.run_diagram.play.Goals as goal

pub returns : goal.returns
returns c =
    let m = c.args.monitor.now in
    let left = c.hear_lines.new.monitor in
    let now = c.hear_lines.new.listener in
    let refused = c.in_ok-refused.refused in
    let plays = subst (λ (lines : List Line). PlaysAll algorithm_row_effects c.new-rows.result now (run_on monitor_transitions itself 2 m lines) left refused) c.lines.ensures c.in_ok-refused.ensures in
    let ruled =
    c.in_ok-verdict.ensures ∙ (λ i. verdict_of (c.algorithm.ensures i) (c.procs.ensures i) c.as_slice.result.now)
    ∙ ap (λ (w : AlgorithmWorldState). verdict_of w.algorithm w.procs c.as_slice.result.now) c.world-world.ensures
    ∙ ap (λ (ts : List TextReport). verdict_of left.world.algorithm left.world.procs ts) c.as_slice.ensures.value in
    draws_run c.new-rows.result now m c.args.schedule.now.lines left refused c.in_ok-verdict.verdict c.new-rows.ensures.rows c.new-rows.ensures.reports plays ruled
