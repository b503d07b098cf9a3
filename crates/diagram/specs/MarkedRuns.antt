-- A run of the lock step by step, each access with its marks.
use Rattle.std.specs.Prelude.{◌≡◌, ℕ, ◌-◌, List, [], ◌∷◌, ◌++◌, map, Option, None, Result, OnOk, get_or}
use Rattle.redomail.specs.declared.layout.Layout.{Layout}
use Rattle.schedule.specs.declared.replays.replay_fault.ReplayFault.{ReplayFault}
use Rattle.schedule.specs.Tapes.{Tape}
use Rattle.diagram.specs.declared.act.DiagramRow.{DiagramRow}
use Rattle.diagram.specs.declared.phase.LifelinePhase.{LifelinePhase}
use Rattle.diagram.specs.declared.remote_marks.RemoteMarks.{RemoteMarks}
use Rattle.diagram.specs.DiagramLayouts.{LifelineView, lifeline_state_with}
use Rattle.diagram.specs.Drawings.{WritesText, lifelines_at_start}
use Rattle.diagram.specs.Events.{DiagramEvent}
use Rattle.diagram.specs.Followed.{row_of, row_text}
use Rattle.diagram.specs.LockMarks.{marks_of_rows}

-- the marks of a run's steps and crashes, in order
abbrev pub marks_on : Layout → List DiagramEvent → List (Option RemoteMarks)
marks_on l events = marks_of_rows l [] (map row_of events)

-- ---- what has been shown so far

-- the lifeline state, and the marks of all steps of the run
pub record MarkedStepsState : Type 0 where
  pub lifelines : LifelineView
  pub marks : List (Option RemoteMarks)

-- before the first step all processes are in the same phase
abbrev pub steps_at_start : Layout → LifelinePhase → List DiagramEvent → MarkedStepsState
steps_at_start l first events = record { lifelines = lifelines_at_start l.procs first; marks = marks_on l events }

-- after a row
abbrev pub marked_steps_with : MarkedStepsState → DiagramRow → MarkedStepsState
marked_steps_with steps row = record { lifelines = lifeline_state_with steps.lifelines row; marks = steps.marks }

-- after rows
abbrev pub marked_steps_after : MarkedStepsState → List DiagramRow → MarkedStepsState
marked_steps_after steps [] = steps
marked_steps_after steps (row ∷ rows) = marked_steps_after (marked_steps_with steps row) rows

-- the marks of the last row: they have its number
abbrev pub last_marks : MarkedStepsState → Option RemoteMarks
last_marks steps = get_or steps.marks (steps.lifelines.rows - 1) None

-- ---- its text

-- the last row, with its marks
abbrev pub marked_row_text : Layout → MarkedStepsState → DiagramRow → List ℕ
marked_row_text l steps row = row_text l steps.lifelines.phases (last_marks steps) row

-- rows, one after the other
abbrev pub marked_rows_text : Layout → MarkedStepsState → List DiagramRow → List ℕ
marked_rows_text l steps [] = []
marked_rows_text l steps (row ∷ rows) = marked_row_text l (marked_steps_with steps row) row ++ marked_rows_text l (marked_steps_with steps row) rows

-- the steps and crashes of a run, before which all processes are in this phase
abbrev pub marked_run_text : Layout → LifelinePhase → List DiagramEvent → List ℕ
marked_run_text l first events = marked_rows_text l (steps_at_start l first events) (map row_of events)

-- rows are written, and what has been shown after them is left; or a beginning is written, and the reason why not the rest
abbrev pub WritesRows : {A : Type 0} → Tape → Tape → Layout → MarkedStepsState → MarkedStepsState → List DiagramRow → Result A ReplayFault → Type 0
WritesRows before now l steps after_it rows result = WritesText before now (marked_rows_text l steps rows) result × OnOk result (after_it ≡ marked_steps_after steps rows)
