-- The whole drawing, in either style.
use Rattle.std.specs.Prelude.{◌≡◌, ℕ, ◌+◌, ◌-◌, ◌^◌, min, Bool, true, List, [], ◌∷◌, ◌++◌, map, length, Result, Ok, Err}
use Rattle.std.proofs.Math.ListN.{replicate}
use Rattle.schedule.specs.declared.texts.head.Head.{Head}
use Rattle.schedule.specs.declared.replays.replay_fault.ReplayFault.{ReplayFault}
use Rattle.schedule.specs.declared.replays.replay_fault.ReplayFault.TheVariants.{Write, OutOfMemory}
use Rattle.schedule.specs.Tapes.{Tape, Writes, Begins, BreaksOff}
use Rattle.diagram.specs.declared.act.DiagramRow.{DiagramRow}
use Rattle.diagram.specs.declared.drawing.End.{End}
use Rattle.diagram.specs.declared.phase.LifelinePhase.{LifelinePhase}
use Rattle.diagram.specs.declared.diagram_layout.DiagramLayout.{DiagramLayout}
use Rattle.diagram.specs.declared.diagram_layout.Style.{Style}
use Rattle.diagram.specs.declared.diagram_layout.Style.TheVariants.{Text, Svg}
use Rattle.diagram.specs.Columns.{row_text, top_text, end_text}
use Rattle.diagram.specs.Pictures.{row_picture, top_picture, end_picture, y_of, bottom_of}
use Rattle.diagram.specs.DiagramLayouts.{LifelineView, lifeline_state_shown, is_deed, against, layout_of}
use Rattle.diagram.specs.ShownRows.{ShownRowState, shown_of}

-- a row in this style
abbrev pub row_spelled_in : Style → DiagramLayout → LifelineView → ShownRowState → List ℕ
row_spelled_in Text diagram_layout lifeline_state row = row_text lifeline_state.phases (is_deed diagram_layout.against lifeline_state row) row
row_spelled_in Svg diagram_layout lifeline_state row = row_picture diagram_layout.layout.procs (y_of lifeline_state.rows) (bottom_of diagram_layout.rows - y_of lifeline_state.rows) (is_deed diagram_layout.against lifeline_state row) row

-- a row, where the lifeline state has taken it
abbrev pub row_spelled : DiagramLayout → LifelineView → ShownRowState → List ℕ
row_spelled diagram_layout lifeline_state row = row_spelled_in diagram_layout.style diagram_layout lifeline_state row

-- rows, where the lifeline state has taken those before them
abbrev pub rows_spelled : DiagramLayout → LifelineView → List ShownRowState → List ℕ
rows_spelled diagram_layout lifeline_state [] = []
rows_spelled diagram_layout lifeline_state (row ∷ rows) =
    row_spelled diagram_layout (lifeline_state_shown lifeline_state row) row
    ++ rows_spelled diagram_layout (lifeline_state_shown lifeline_state row) rows

-- the part above the rows
abbrev pub top_in : Style → Bool → DiagramLayout → List LifelinePhase → List ℕ
top_in Text mailbox diagram_layout phases = top_text phases
top_in Svg mailbox diagram_layout phases = top_picture mailbox diagram_layout.layout.procs (bottom_of diagram_layout.rows) phases

-- the part below the rows
abbrev pub end_in : Style → DiagramLayout → End → List ℕ
end_in Text diagram_layout end = end_text end
end_in Svg diagram_layout end = end_picture (bottom_of diagram_layout.rows) end

-- what the rows of a drawing are drawn with
abbrev pub diagram_layout_of : {R : Type 0} → Style → Head → List R → End → DiagramLayout
diagram_layout_of style head rows end = record { style = style; layout = layout_of head; rows = length rows; against = against end }

-- the drawing of rows, from the lifeline state before the first, with a lifeline of the mailbox or without
unfoldable pub spelled_from : Bool → DiagramLayout → LifelineView → List ShownRowState → End → List ℕ
spelled_from mailbox diagram_layout lifeline_state rows end =
    top_in diagram_layout.style mailbox diagram_layout lifeline_state.phases
    ++ (rows_spelled diagram_layout lifeline_state rows ++ end_in diagram_layout.style diagram_layout end)

-- before the first row all processes are in the same phase
abbrev pub lifelines_at_start : ℕ → LifelinePhase → LifelineView
lifelines_at_start procs first = record { phases = replicate procs first; deeds = 0; rows = 0 }

-- the drawing of a run of the lock
abbrev pub drawing_text : DiagramLayout → LifelinePhase → List DiagramRow → End → List ℕ
drawing_text diagram_layout first rows end =
    spelled_from true diagram_layout (lifelines_at_start diagram_layout.layout.procs first) (map (shown_of diagram_layout.layout) rows) end

-- all of a text is written, or a beginning of it and the reason why not the rest. Out of memory leaves some of it unwritten
abbrev pub WritesText : {A : Type 0} → Tape → Tape → List ℕ → Result A ReplayFault → Type 0
WritesText before now text (Ok x) = Writes before now text
WritesText before now text (Err Write) = Begins before.taken now.taken text × (now.failures ≡ min (before.failures + 1) (2 ^ 64 - 1))
WritesText before now text (Err OutOfMemory) = BreaksOff before.taken now.taken text × (now.failures ≡ before.failures)
WritesText before now text (Err fault) = ⊥
