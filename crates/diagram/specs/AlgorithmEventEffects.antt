-- What an event of an algorithm's run does to the list that hears it.
use Rattle.std.specs.Prelude.{◌≡◌, ◌++◌}
use Rattle.schedule.specs.declared.texts.fault.OutOfMemory.{OutOfMemory}
use Rattle.schedule.specs.Effects.{Effects}
use Rattle.schedule.specs.Transitions.{RunEvent}
use Rattle.algorithm_lab.specs.declared.monitor_event.MonitorCrash.{MonitorCrash}
use Rattle.algorithm_lab.specs.declared.monitor_event.MonitorStep.{MonitorStep}
use Rattle.diagram.specs.declared.algorithm.event_list.EventList.{EventList}
use Rattle.diagram.specs.AlgorithmEventLists.{kept_alone}

-- an event is added. Where the list stops there is no memory for one more
abbrev pub event_list_effects : Effects EventList (RunEvent MonitorStep MonitorCrash) OutOfMemory
event_list_effects =
    record { hears = λ before event now. now.events.items ≡ before.events.items ++ kept_alone event; stops = λ before event now stop. Unit {0} }
