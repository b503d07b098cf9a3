use Rattle.std.proofs.Common.{refl, ap, ◌∙◌, arith}
use Rattle.schedule.specs.Transitions.{Took}
use Rattle.diagram.proofs.AlgorithmRowEffects.{takes_event}
use Rattle.diagram.specs.AlgorithmEvents.{lifeline_phase}
use Rattle.diagram.specs.declared.algorithm.row_collector.AlgorithmRows.{AlgorithmRows}
use Rattle.diagram.proofs.algorithm.row_collector.AlgorithmRowsListenerMonitor.hear_step.Goals as goal

pub returns-clause-ok : goal.returns-clause-ok
returns-clause-ok c =
    let before = c.args.self.now in
    let mid : AlgorithmRows = record before { reports = c.put_step.new.reports } in
    takes_event before mid c.take.new.self (Took c.args.p c.args.step.now) c.act_of.result c.lifeline_phase.result c.len-before.result refl c.in_ok-put_step.ensures (omega (arith, c.len-before.ensures)) c.act_of.ensures
    (c.lifeline_phase.ensures ∙ ap lifeline_phase c.phase_after_step-after.ensures) c.in_ok-take.ensures.rows c.in_ok-take.ensures.reports
