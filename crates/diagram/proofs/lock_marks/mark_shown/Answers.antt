use Rattle.std.proofs.Common.{◌∷◌, [], List, OnOk, map, sym, subst}
use Rattle.diagram.specs.LockMarks.{MarksRows}
use Rattle.diagram.proofs.Common.{RowAct, DiagramRow, row_of, events_shown}
use Rattle.diagram.proofs.Steps.{again_and_again}
use Rattle.diagram.proofs.lock_marks.mark_shown.Goals as goal

pub returns-in-Silent : goal.returns-in-Silent
returns-in-Silent c = λ run copies.
    let l = c.args.layout.now in
    let p = c.args.row.now.p in
    let before = c.args.marks.now.items in
    let marks = c.mark_times.new.marks.items in
    let after = c.mark_times.new.copies in
    subst (λ (act : RowAct). OnOk c.mark_times.result (MarksRows l run (map row_of (events_shown p act)) before marks after)) (sym c.in-Silent.is)
    (subst (λ (rows : List DiagramRow). OnOk c.mark_times.result (MarksRows l run rows before marks after)) (again_and_again p c.in-Silent.times c.in-Silent.happened)
    (c.mark_times.ensures run copies))

pub returns-in-Telling : goal.returns-in-Telling
returns-in-Telling c = λ run copies.
    let l = c.args.layout.now in
    let p = c.args.row.now.p in
    let before = c.args.marks.now.items in
    let marks = c.mark_times-in-Telling.new.marks.items in
    let after = c.mark_times-in-Telling.new.copies in
    subst (λ (act : RowAct). OnOk c.mark_times-in-Telling.result (MarksRows l run (map row_of (events_shown p act)) before marks after)) (sym c.in-Telling.is)
    (subst (λ (row : DiagramRow). OnOk c.mark_times-in-Telling.result (MarksRows l run (row ∷ []) before marks after)) c.row_of.ensures
    (c.mark_times-in-Telling.ensures run copies))

pub returns-in-Fell : goal.returns-in-Fell
returns-in-Fell c = λ run copies.
    let l = c.args.layout.now in
    let p = c.args.row.now.p in
    let before = c.args.marks.now.items in
    let marks = c.mark_times-in-Fell.new.marks.items in
    let after = c.mark_times-in-Fell.new.copies in
    subst (λ (act : RowAct). OnOk c.mark_times-in-Fell.result (MarksRows l run (map row_of (events_shown p act)) before marks after)) (sym c.in-Fell.is)
    (subst (λ (act : RowAct). OnOk c.mark_times-in-Fell.result (MarksRows l run (record { p = p; act = act } ∷ []) before marks after)) c.in-Fell.is
    (c.mark_times-in-Fell.ensures run copies))
