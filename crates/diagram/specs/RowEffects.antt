-- What an event does to the rows of a drawing.
use Rattle.std.specs.Prelude.{◌≡◌}
use Rattle.schedule.specs.declared.texts.fault.OutOfMemory.{OutOfMemory}
use Rattle.schedule.specs.Effects.{Effects}
use Rattle.diagram.specs.declared.row_collector.Rows.{Rows}
use Rattle.diagram.specs.Events.{DiagramEvent}
use Rattle.diagram.specs.Followed.{row_of}
use Rattle.diagram.specs.Repetitions.{with_row}

-- what an event does to the rows. Where they stop there is no memory for one more
abbrev pub row_effects : Effects Rows DiagramEvent OutOfMemory
row_effects = record { hears = λ before event now. now.rows.items ≡ with_row before.rows.items (row_of event); stops = λ before event now stop. Unit {0} }
