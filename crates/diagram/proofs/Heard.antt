-- Rows whose deeds are judged one after another.
use Rattle.std.proofs.Common.{◌≡◌, ℕ, zero, suc, List, [], ◌∷◌, ◌++◌, refl, ap, ◌∙◌}
use Rattle.diagram.proofs.Common.{replicate, append-nil, flat_map-cons, flat_map-append, Happened, Deed, RunningJudge, Hears, deeds_of, did, reports_of, hears_both, deeds_append, deeds_reported, RowAct, DiagramRow, DiagramEvent}
use Rattle.diagram.proofs.Common.{Took, reports_in, events_in, events_shown, silent_step, deed_of}
use Rattle.diagram.specs.declared.act.RowAct.TheVariants.{Silent, Telling, Fell}
use Rattle.schedule.specs.Transitions as events
use Rattle.diagram.proofs.RunEvents.{reported_cons, reported_append}

silent_tells : (p : ℕ) (happened : Happened) (times : ℕ) → reports_in (replicate times (Took p (silent_step happened))) ≡ []
silent_tells p happened zero = refl
silent_tells p happened (suc n) = reported_cons (Took p (silent_step happened)) (replicate n (Took p (silent_step happened))) ∙ silent_tells p happened n

-- a row reports its deed
pub row_deeds : (p : ℕ) (act : RowAct) → deeds_of (reports_in (events_shown p act)) ≡ deeds_of (did (deed_of act))
row_deeds p (Silent happened times) = ap deeds_of (silent_tells p happened times)
row_deeds p (Telling step) =
    ap deeds_of (reported_cons (Took p step) []) ∙ deeds_append (reports_of p step.deed step.answer) [] ∙ append-nil (deeds_of (reports_of p step.deed step.answer)) ∙ deeds_reported p step.deed step.answer
row_deeds p (Fell deed) = ap deeds_of (reported_cons (events.Fell p deed) [])

pub events_append : (rows more : List DiagramRow) → events_in (rows ++ more) ≡ events_in rows ++ events_in more
events_append rows more = flat_map-append (λ row. events_shown row.p row.act) rows more

pub events_last : (rows : List DiagramRow) (row : DiagramRow) → events_in (rows ++ row ∷ []) ≡ events_in rows ++ events_shown row.p row.act
events_last rows row =
    events_append rows (row ∷ []) ∙ ap (λ (es : List DiagramEvent). events_in rows ++ es)
    (flat_map-cons (λ row. events_shown row.p row.act) row [] ∙ append-nil (events_shown row.p row.act))

-- one more row is judged
pub hears_row : (first mid now : RunningJudge) (rows : List DiagramRow) (row : DiagramRow) → Hears first (deeds_of (reports_in (events_in rows))) mid → Hears mid (deeds_of (did (deed_of row.act))) now
    → Hears first (deeds_of (reports_in (events_in (rows ++ row ∷ [])))) now
hears_row first mid now rows row before one =
    let deeds : deeds_of (reports_in (events_in (rows ++ row ∷ []))) ≡ deeds_of (reports_in (events_in rows)) ++ deeds_of (did (deed_of row.act)) =
    ap (λ es. deeds_of (reports_in es)) (events_last rows row) ∙ ap deeds_of (reported_append (events_in rows) (events_shown row.p row.act))
    ∙ deeds_append (reports_in (events_in rows)) (reports_in (events_shown row.p row.act))
    ∙ ap (λ (ds : List Deed). deeds_of (reports_in (events_in rows)) ++ ds) (row_deeds row.p row.act) in
    rw deeds (hears_both first mid now (deeds_of (reports_in (events_in rows))) (deeds_of (did (deed_of row.act))) before one)
