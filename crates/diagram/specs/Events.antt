-- The events of a run: each step with the word that it reads or writes, and each crash (Run of docs/theory/model.md).
use Rattle.std.specs.Prelude.{List}
use Rattle.std.specs.List.{flat_map}
use Rattle.redomail.specs.declared.deed.Deed.{Deed}
use Rattle.rmeworld.specs.declared.stepped.Stepped.{Stepped}
use Rattle.rmeworld.specs.Behaviours.{Behaviour}
use Rattle.schedule.specs.declared.lines.line.Line.{Line}
use Rattle.schedule.specs.Fragments.{itself, line_on as line_by, run_on as run_by}
use Rattle.schedule.specs.Runs.{LockReport, reports_by, transitions_of}
use Rattle.schedule.specs.Transitions.{RunEvent as EventOf}

-- a step of a process, or its crash
abbrev pub DiagramEvent : Type 0
DiagramEvent = EventOf Stepped Deed

-- what events report
abbrev pub reports_in : List DiagramEvent → List LockReport
reports_in events = flat_map reports_by events

module _ {S : Type 0} (b : Behaviour S) where
  -- the events of one line. A start has none
  unfoldable pub events_of : S → Line → List DiagramEvent
  events_of s line = (line_by (transitions_of b) itself s line).reports

  -- the events of lines, up to the one that is refused
  unfoldable pub events_on : S → List Line → List DiagramEvent
  events_on s lines = (run_by (transitions_of b) itself 2 s lines).reports
