-- What the steps so far have shown of each process: its phase, and its last access since its last crash.
use Rattle.std.specs.Prelude.{◌≡◌, ℕ, List, [], ◌∷◌, map, Option, Some, None, Result, Ok, Err, slice_set}
use Rattle.std.proofs.Math.ListN.{replicate}
use Rattle.rmecore.specs.declared.happened.Happened.{Happened}
use Rattle.rmecore.specs.declared.refusal.Refusal.{Refusal}
use Rattle.rmecore.specs.Refused.{number_of}
use Rattle.schedule.specs.declared.player.play_stop.PlayStop.{PlayStop}
use Rattle.schedule.specs.declared.player.play_stop.PlayStop.TheVariants as play_stops
use Rattle.schedule.specs.declared.texts.fault.OutOfMemory.{OutOfMemory}
use Rattle.diagram.specs.declared.act.RowAct.{RowAct}
use Rattle.diagram.specs.declared.act.RowAct.TheVariants.{Silent, Telling, Fell}
use Rattle.diagram.specs.declared.act.DiagramRow.{DiagramRow}
use Rattle.diagram.specs.declared.phase.LifelinePhase.{LifelinePhase}
use Rattle.diagram.specs.declared.phase.LifelinePhase.TheVariants.{Rest}
use Rattle.diagram.specs.Events.{DiagramEvent}
use Rattle.diagram.specs.Followed.{phases_with, row_of}

-- the phases of the processes, and their last accesses
pub record LastStepsState : Type 0 where
  pub phases : List LifelinePhase
  pub lasts : List (Option Happened)

-- the access of a row; a crash has none
abbrev pub access_in : RowAct → Option Happened
access_in (Silent happened times) = Some happened
access_in (Telling step) = Some step.happened
access_in (Fell deed) = None

-- after a row
abbrev pub last_steps_with : LastStepsState → DiagramRow → LastStepsState
last_steps_with last_steps row =
    record { phases = phases_with last_steps.phases row; lasts = slice_set last_steps.lasts row.p (access_in row.act) }

-- after rows
abbrev pub last_steps_after_rows : LastStepsState → List DiagramRow → LastStepsState
last_steps_after_rows last_steps [] = last_steps
last_steps_after_rows last_steps (row ∷ rows) = last_steps_after_rows (last_steps_with last_steps row) rows

-- after the steps and crashes of a run
abbrev pub last_steps_after : LastStepsState → List DiagramEvent → LastStepsState
last_steps_after last_steps events = last_steps_after_rows last_steps (map row_of events)

-- before the first step, all processes at rest
abbrev pub no_last_steps : ℕ → LastStepsState
no_last_steps procs = record { phases = replicate procs Rest; lasts = replicate procs None }

-- the number of a refusal, if there is one
abbrev pub number_refused : Option Refusal → Option ℕ
number_refused None = None
number_refused (Some refusal) = number_of refusal

-- the number of the refusal of a line that is not played to its end, or out of memory
abbrev pub IsNumberOf : {A : Type 0} → PlayStop Refusal OutOfMemory → Result (Option ℕ) A → Type 0
IsNumberOf (play_stops.Refused refusal) (Ok number) = number ≡ number_of refusal
IsNumberOf (play_stops.Refused refusal) (Err x) = ⊥
IsNumberOf stop (Ok number) = ⊥
IsNumberOf stop (Err x) = Unit {0}
