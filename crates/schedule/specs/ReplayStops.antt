-- What a replay writes, answers and leaves, up to the end of its report.
use Rattle.std.specs.Prelude.{◌≡◌, ℕ, ◌+◌, ◌-◌, ◌^◌, min, List, Option, Some, None, Result, Ok, Err}
use Rattle.rmecore.specs.declared.refusal.Refusal.{Refusal}
use Rattle.rmecore.specs.Refused.{number_of}
use Rattle.schedule.specs.declared.replays.replay_fault.ReplayFault.{ReplayFault}
use Rattle.schedule.specs.declared.replays.replay_fault.ReplayFault.TheVariants as faults
use Rattle.schedule.specs.declared.replays.replay_stop.ReplayStop.{ReplayStop}
use Rattle.schedule.specs.declared.replays.replay_stop.ReplayStop.TheVariants.{Write, OutOfMemory}
use Rattle.schedule.specs.declared.player.play_stop.PlayStop.{PlayStop}
use Rattle.schedule.specs.declared.player.play_stop.PlayStop.TheVariants as play_stops
use Rattle.schedule.specs.Tapes.{Tape, Writes, Begins, BreaksOff}
use Rattle.schedule.specs.Runs.{LockReport, Part, deeds_of}
use Rattle.schedule.specs.Reports.{reports_text}
use Rattle.schedule.specs.RunningVerdicts.{RunningJudge, Hears}

-- why a replay stops within a text. Out of memory leaves some of it unwritten
abbrev pub ReplayStops : Tape → Tape → List ℕ → ReplayStop → Type 0
ReplayStops before now text Write = Begins before.taken now.taken text × (now.failures ≡ min (before.failures + 1) (2 ^ 64 - 1))
ReplayStops before now text OutOfMemory = BreaksOff before.taken now.taken text × (now.failures ≡ before.failures)

-- what is reported is written, and its deeds are given to the judge
abbrev pub Tells : {A : Type 0} → Tape → Tape → RunningJudge → RunningJudge → List LockReport → Result A ReplayStop → Type 0
Tells before now running_judge heard reports (Ok x) = Writes before now (reports_text reports) × Hears running_judge (deeds_of reports) heard
Tells before now running_judge heard reports (Err replay_stop) = ReplayStops before now (reports_text reports) replay_stop

-- the deeds that were reported are judged, and the machine is in the state that is left
pub record Stops {S : Type 0} (running_judge heard : RunningJudge) (reports : List LockReport) (left s : S) : Type 0 where
  pub hears : Hears running_judge (deeds_of reports) heard
  pub stands : s ≡ left

-- the fault of a refused line. The refusal OutOfMemory has no number
abbrev pub refused_at : ℕ → Option ℕ → ReplayFault
refused_at line None = faults.OutOfMemory
refused_at line (Some number) = faults.Refused line number

-- the fault of a replay that stops at this line
abbrev pub fault_at : ℕ → PlayStop Refusal ReplayStop → ReplayFault
fault_at line (play_stops.Refused refusal) = refused_at line (number_of refusal)
fault_at line play_stops.OutOfMemory = faults.OutOfMemory
fault_at line (play_stops.Stopped Write) = faults.Write
fault_at line (play_stops.Stopped OutOfMemory) = faults.OutOfMemory

-- why a run is not played to its end
abbrev pub Ends : {S : Type 0} → Tape → Tape → Part S (ℕ × Refusal) → ReplayFault → Type 0
Ends before now run (faults.Refused line number) =
    Writes before now (reports_text run.reports) × ((refusal : Refusal) × (run.refused ≡ Some (line, refusal)) × (number_of refusal ≡ Some number))
Ends before now run faults.Write = Begins before.taken now.taken (reports_text run.reports) × (now.failures ≡ min (before.failures + 1) (2 ^ 64 - 1))
Ends before now run faults.OutOfMemory = BreaksOff before.taken now.taken (reports_text run.reports) × (now.failures ≡ before.failures)
Ends before now run fault = ⊥

-- the fault is a refused line
abbrev pub IsRefused : ReplayFault → Type 0
IsRefused (faults.Refused line number) = Unit {0}
IsRefused fault = ⊥

-- the lines of a run are played
abbrev pub Runs : {S A : Type 0} → Tape → Tape → RunningJudge → RunningJudge → Part S (ℕ × Refusal) → S → Result A ReplayFault → Type 0
Runs before now running_judge heard run s (Ok x) =
    Writes before now (reports_text run.reports) × Hears running_judge (deeds_of run.reports) heard × (run.refused ≡ None) × (s ≡ run.left)
Runs before now running_judge heard run s (Err fault) = Ends before now run fault × (IsRefused fault → Stops running_judge heard run.reports run.left s)

-- the run is over: with a verdict, or at the line that is refused
abbrev pub IsOver : {A : Type 0} → Result A ReplayFault → Type 0
IsOver (Ok x) = Unit {0}
IsOver (Err fault) = IsRefused fault
