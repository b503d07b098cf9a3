-- Rows that are written one after another.
use Rattle.std.proofs.Common.{◌≡◌, ℕ, zero, suc, List, [], ◌∷◌, ◌++◌, map, None, refl, sym, ap, ◌∙◌, append_assoc}
use Rattle.diagram.proofs.Common.{replicate, flat_map-cons, Happened, DiagramRow, LifelinePhase, DiagramEvent, Took, row_of, row_text, phases_with, phases_after, rows_text, events_in, events_shown, silent_step}
use Rattle.redomail.specs.declared.layout.Layout.{Layout}
use Rattle.diagram.specs.declared.act.RowAct.TheVariants as acts
use Rattle.diagram.specs.MarkedRuns.{MarkedStepsState, marked_row_text, marked_rows_text, marked_steps_after, marked_steps_with}

pub reported_both : (l : Layout) (phases : List LifelinePhase) (rows more : List DiagramRow)
    → rows_text l phases (rows ++ more) ≡ rows_text l phases rows ++ rows_text l (phases_after phases rows) more
reported_both l phases [] more = refl
reported_both l phases (row ∷ rows) more =
    ap (λ (t : List ℕ). row_text l (phases_with phases row) None row ++ t) (reported_both l (phases_with phases row) rows more)
    ∙ sym
    (append_assoc (row_text l (phases_with phases row) None row) (rows_text l (phases_with phases row) rows)
    (rows_text l (phases_after (phases_with phases row) rows) more))

-- the same with their marks
marked_both : (l : Layout) (steps : MarkedStepsState) (rows more : List DiagramRow)
    → marked_rows_text l steps (rows ++ more) ≡ marked_rows_text l steps rows ++ marked_rows_text l (marked_steps_after steps rows) more
marked_both l steps [] more = refl
marked_both l steps (row ∷ rows) more =
    let next = marked_steps_with steps row in
    ap (λ (t : List ℕ). marked_row_text l next row ++ t) (marked_both l next rows more)
    ∙ sym (append_assoc (marked_row_text l next row) (marked_rows_text l next rows) (marked_rows_text l (marked_steps_after next rows) more))

pub rows_both : (es fs : List DiagramEvent) → map row_of (es ++ fs) ≡ map row_of es ++ map row_of fs
rows_both [] fs = refl
rows_both (e ∷ es) fs = ap (λ (rows : List DiagramRow). row_of e ∷ rows) (rows_both es fs)

-- a step that is taken again and again
pub again_and_again : (p n : ℕ) (happened : Happened) → replicate n (record { p = p; act = acts.Silent happened 1 }) ≡ map row_of (replicate n (Took p (silent_step happened)))
again_and_again p zero happened = refl
again_and_again p (suc n) happened = ap (λ (rows : List DiagramRow). record { p = p; act = acts.Silent happened 1 } ∷ rows) (again_and_again p n happened)

-- what a row shows, and what the rows after it show
pub followed_more : (l : Layout) (steps : MarkedStepsState) (row : DiagramRow) (rows : List DiagramRow)
    → marked_rows_text l steps (map row_of (events_in (row ∷ rows)))
    ≡ marked_rows_text l steps (map row_of (events_shown row.p row.act))
    ++ marked_rows_text l (marked_steps_after steps (map row_of (events_shown row.p row.act))) (map row_of (events_in rows))
followed_more l steps row rows =
    ap (λ (es : List DiagramEvent). marked_rows_text l steps (map row_of es)) (flat_map-cons (λ row. events_shown row.p row.act) row rows)
    ∙ ap (λ (rs : List DiagramRow). marked_rows_text l steps rs) (rows_both (events_shown row.p row.act) (events_in rows))
    ∙ marked_both l steps (map row_of (events_shown row.p row.act)) (map row_of (events_in rows))
