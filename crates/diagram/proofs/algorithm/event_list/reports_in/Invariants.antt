use Rattle.std.proofs.Common.{◌≡◌, take}
use Rattle.std.specs.List.{flat_map}
use Rattle.diagram.specs.AlgorithmEventLists.{kept_reports}
use Rattle.diagram.proofs.algorithm.event_list.reports_in.Given as goal

abbrev pub invariant-loop-event : goal.invariant-loop-event
invariant-loop-event l = l.reports.items ≡ flat_map kept_reports (take l.event-index l.events)
