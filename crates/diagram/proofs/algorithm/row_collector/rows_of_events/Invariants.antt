use Rattle.std.proofs.Common.{◌≡◌, [], drop}
use Rattle.diagram.specs.AlgorithmPages.{with_kept}
use Rattle.diagram.proofs.algorithm.row_collector.rows_of_events.Given as goal

-- the rows so far, and the events that are left
abbrev pub invariant-loop-event : goal.invariant-loop-event
invariant-loop-event l = with_kept l.rows.items (drop l.event-index l.events) ≡ with_kept [] l.events
