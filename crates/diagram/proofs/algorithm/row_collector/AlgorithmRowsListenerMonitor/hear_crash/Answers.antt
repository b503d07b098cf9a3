use Rattle.std.proofs.Common.{refl, arith}
use Rattle.schedule.specs.Transitions.{Fell}
use Rattle.diagram.proofs.AlgorithmRowEffects.{takes_event}
use Rattle.diagram.specs.declared.algorithm.row.AlgorithmAct.TheVariants.{Crashed}
use Rattle.diagram.specs.declared.algorithm.row_collector.AlgorithmRows.{AlgorithmRows}
use Rattle.diagram.specs.declared.phase.LifelinePhase.TheVariants.{Dead}
use Rattle.diagram.proofs.algorithm.row_collector.AlgorithmRowsListenerMonitor.hear_crash.Goals as goal

pub returns-clause-ok : goal.returns-clause-ok
returns-clause-ok c =
    let before = c.args.self.now in
    let mid : AlgorithmRows = record before { reports = c.put_crash.new.reports } in
    takes_event before mid c.take.new.self (Fell c.args.p c.args.crash.now) Crashed Dead c.len-before.result refl c.in_ok-put_crash.ensures (omega (arith, c.len-before.ensures)) refl refl
    c.in_ok-take.ensures.rows c.in_ok-take.ensures.reports
