-- What an event of an algorithm's run does to the rows that hear it.
use Rattle.std.specs.Prelude.{◌≡◌, ◌++◌}
use Rattle.schedule.specs.declared.texts.fault.OutOfMemory.{OutOfMemory}
use Rattle.schedule.specs.Effects.{Effects}
use Rattle.schedule.specs.Transitions.{RunEvent}
use Rattle.algorithm_lab.specs.declared.monitor_event.MonitorCrash.{MonitorCrash}
use Rattle.algorithm_lab.specs.declared.monitor_event.MonitorStep.{MonitorStep}
use Rattle.diagram.specs.declared.algorithm.row_collector.AlgorithmRows.{AlgorithmRows}
use Rattle.diagram.specs.AlgorithmEvents.{AlgorithmEvent, drawn_event}
use Rattle.diagram.specs.AlgorithmRows.{with_event}

-- the rows of an event are added, and what it reports
pub record TakesEvent (before : AlgorithmRows) (event : AlgorithmEvent) (now : AlgorithmRows) : Type 0 where
  pub rows : now.rows.items ≡ with_event before.rows.items event
  pub reports : now.reports.items ≡ before.reports.items ++ event.reports

-- where the rows stop there is no memory for one more
abbrev pub algorithm_row_effects : Effects AlgorithmRows (RunEvent MonitorStep MonitorCrash) OutOfMemory
algorithm_row_effects = record { hears = λ before event now. TakesEvent before (drawn_event event) now; stops = λ before event now stop. Unit {0} }
