-- How the rows of a run are collected.
use Rattle.std.specs.Prelude.{◌≡◌, ℕ, List, [], Option, Some, None, Result, Ok, Err}
use Rattle.rmecore.specs.declared.refusal.Refusal.{Refusal}
use Rattle.rmecore.specs.Refused.{number_of}
use Rattle.schedule.specs.declared.player.play_stop.PlayStop.{PlayStop}
use Rattle.schedule.specs.declared.player.play_stop.PlayStop.TheVariants as play_stops
use Rattle.schedule.specs.declared.texts.fault.OutOfMemory.{OutOfMemory}
use Rattle.schedule.specs.Runs.{Part}
use Rattle.diagram.specs.declared.act.DiagramRow.{DiagramRow}
use Rattle.diagram.specs.declared.stop.DiagramStop.{DiagramStop}
use Rattle.diagram.specs.declared.stop.DiagramStop.TheVariants as stops
use Rattle.diagram.specs.Events.{DiagramEvent}
use Rattle.diagram.specs.Repetitions.{with_events}

-- the refusal OutOfMemory has no number
abbrev pub stop_by : Option ℕ → DiagramStop
stop_by None = stops.OutOfMemory
stop_by (Some number) = stops.Refused number

-- why rows are not collected on
abbrev pub stop_of : PlayStop Refusal OutOfMemory → DiagramStop
stop_of (play_stops.Refused refusal) = stop_by (number_of refusal)
stop_of play_stops.OutOfMemory = stops.OutOfMemory
stop_of (play_stops.Stopped stop) = stops.OutOfMemory

-- how the lines of a run were played: all of them, or up to a refused line. Out of memory comes only where there is something to show
abbrev pub CollectsRun : {S A : Type 0} → List DiagramRow → List DiagramRow → List DiagramEvent → Part S (ℕ × Refusal) → S → Result A (ℕ × DiagramStop) → Type 0
CollectsRun before now events run s (Ok x) = (now ≡ with_events before events) × (run.refused ≡ None) × (s ≡ run.left)
CollectsRun before now events run s (Err (line, stops.Refused number)) =
    (now ≡ with_events before events) × ((refusal : Refusal) × (run.refused ≡ Some (line, refusal)) × (number_of refusal ≡ Some number)) × (s ≡ run.left)
CollectsRun before now events run s (Err (line, stops.OutOfMemory)) = events ≡ [] → ⊥
