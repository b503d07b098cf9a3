-- What a row is drawn with: the sizes of the whole, and the lifeline state after the rows before it.
use Rattle.std.specs.Prelude.{ℕ, ◌==◌, Bool, true, false, List, Option, is_some, if◌then◌else◌, ◌&&◌}
use Rattle.redomail.specs.declared.deed.Deed.{Deed}
use Rattle.redomail.specs.declared.layout.Layout.{Layout}
use Rattle.rmecore.specs.Simulated.{one_more}
use Rattle.rmecore.specs.declared.fault.Fault.{Fault}
use Rattle.rmecore.specs.declared.fault.Fault.TheVariants.{LongExit, LongRecovery, LongDoorway, BrokenClaim}
use Rattle.schedule.specs.declared.texts.head.Head.{Head}
use Rattle.schedule.specs.declared.replays.verdict.Verdict.{Verdict}
use Rattle.schedule.specs.declared.replays.verdict.Verdict.TheVariants.{Fine, Against}
use Rattle.diagram.specs.declared.act.DiagramRow.{DiagramRow}
use Rattle.diagram.specs.declared.drawing.End.{End}
use Rattle.diagram.specs.declared.drawing.End.TheVariants.{Judged, Refused}
use Rattle.diagram.specs.declared.phase.LifelinePhase.{LifelinePhase}
use Rattle.diagram.specs.Phases.{phase_shown, with_phase}
use Rattle.diagram.specs.Rows.{deed_of}
use Rattle.diagram.specs.ShownRows.{ShownRowState}

-- the sizes that a header names, without the limit
abbrev pub layout_of : Head → Layout
layout_of head = record { procs = head.procs; cap = head.cap; width = head.width }

-- a fault is of a deed that is refused. Else it is of own steps, or of a claim
abbrev pub is_of_deed : Fault → Bool
is_of_deed LongExit = false
is_of_deed LongRecovery = false
is_of_deed LongDoorway = false
is_of_deed BrokenClaim = false
is_of_deed _ = true

-- the number of the deed that a verdict is against; 0 if there is none
abbrev pub deed_against : Verdict → ℕ
deed_against Fine = 0
deed_against (Against at fault) = if is_of_deed fault then at else 0

-- the number of the deed that the verdict is against, 0 if there is none
abbrev pub against : End → ℕ
against (Judged verdict) = deed_against verdict
against (Refused line number verdict) = deed_against verdict

-- the lifeline state: the phases of the processes, and the numbers of deeds and of rows, with the row that is drawn. The
-- numbers stop at the greatest u64
pub record LifelineView : Type 0 where
  pub phases : List LifelinePhase
  pub deeds : ℕ
  pub rows : ℕ

-- the number of deeds with a row of this deed
abbrev pub deeds_with : Option Deed → ℕ → ℕ
deeds_with deed n = if is_some deed then one_more n else n

-- the lifeline state after a row in which p shows this phase and this deed
abbrev pub lifeline_state_by : LifelineView → ℕ → Option LifelinePhase → Option Deed → LifelineView
lifeline_state_by lifeline_state p phase deed =
    record {
      phases = with_phase lifeline_state.phases p phase;
      deeds = deeds_with deed lifeline_state.deeds;
      rows = one_more lifeline_state.rows;
    }

-- the lifeline state after a row of a run of the lock
abbrev pub lifeline_state_with : LifelineView → DiagramRow → LifelineView
lifeline_state_with lifeline_state row = lifeline_state_by lifeline_state row.p (phase_shown row.act) (deed_of row.act)

-- the lifeline state after any row
abbrev pub lifeline_state_shown : LifelineView → ShownRowState → LifelineView
lifeline_state_shown lifeline_state row = lifeline_state_by lifeline_state row.p row.phase row.deed

-- the row has the deed of this number
abbrev pub is_deed : ℕ → LifelineView → ShownRowState → Bool
is_deed at lifeline_state row = is_some row.deed && lifeline_state.deeds == at
