use Rattle.std.proofs.Common.{◌≡◌, ◌+◌, ◌∷◌, List, map, drop, [], refl, sym, ap, subst, ◌∙◌, arith}
use Rattle.diagram.proofs.Common.{drop_more, length-drop, nil_from_length, err_from_is_err_and, WritesFront, row_spelled, rows_spelled, LifelineView, lifeline_state_shown, ShownRowState}
use Rattle.diagram.proofs.Written.{nothing_yet, one_more_part, all_parts, stops_within}
use Rattle.diagram.proofs.drawing_writer.write_rows.Goals as goal

pub loop-row-init : goal.loop-row-init
loop-row-init g c = (nothing_yet (g.W.Sink.tape c.args.w.now) _, refl)

pub returns-in_err-write_row : goal.returns-in_err-write_row
returns-in_err-write_row g c =
    let i = c.loop-row.row-index in
    let rows = c.args.rows.now in
    let item = c.row-item.result in
    let diagram_layout = c.args.diagram_layout.now in
    let lifeline_state = c.loop-row.lifeline_state in
    let first = g.W.Sink.tape c.args.w.now in
    let mid = g.W.Sink.tape c.loop-row.w in
    let last = g.W.Sink.tape c.write_row.new.w in
    let shows = g.R.Row.shows c.args.names.now in
    let e : map shows (drop i rows) ≡ shows item ∷ map shows (drop (i + 1) rows) = ap (map shows) (drop_more rows i item c.loop-row-test.true ∙ ap (λ x. x ∷ drop (i + 1) rows) (sym c.row-item.is)) in
    let p = err_from_is_err_and c.from_residual.result c.from_residual.ensures.1 in
    let whole = rows_spelled diagram_layout c.args.lifeline_state.now (map shows rows) in
    let next = lifeline_state_shown lifeline_state (shows item) in
    let front = subst (λ (rs : List ShownRowState). WritesFront first.taken mid.taken whole (rows_spelled diagram_layout lifeline_state rs)) e c.loop-row.invariant.0 in
    rw (p.1, p.2)
    (stops_within first mid last whole (row_spelled diagram_layout next (shows item)) (rows_spelled diagram_layout next (map shows (drop (i + 1) rows))) c.in_err-write_row.field-0.0 front c.loop-row.invariant.1 c.in_err-write_row.ensures.written)

pub loop-row-preserved : goal.loop-row-preserved
loop-row-preserved g c =
    let i = c.loop-row.row-index in
    let rows = c.args.rows.now in
    let item = c.row-item.result in
    let diagram_layout = c.args.diagram_layout.now in
    let lifeline_state = c.loop-row.lifeline_state in
    let first = g.W.Sink.tape c.args.w.now in
    let mid = g.W.Sink.tape c.loop-row.w in
    let last = g.W.Sink.tape c.write_row.new.w in
    let shows = g.R.Row.shows c.args.names.now in
    let e : map shows (drop i rows) ≡ shows item ∷ map shows (drop (i + 1) rows) = ap (map shows) (drop_more rows i item c.loop-row-test.true ∙ ap (λ x. x ∷ drop (i + 1) rows) (sym c.row-item.is)) in
    let whole = rows_spelled diagram_layout c.args.lifeline_state.now (map shows rows) in
    let next = lifeline_state_shown lifeline_state (shows item) in
    let front = subst (λ (rs : List ShownRowState). WritesFront first.taken mid.taken whole (rows_spelled diagram_layout lifeline_state rs)) e c.loop-row.invariant.0 in
    let written = c.in_ok-write_row.ensures.written in
    let further = one_more_part first mid last whole (row_spelled diagram_layout next (shows item)) (rows_spelled diagram_layout next (map shows (drop (i + 1) rows))) front written in
    (subst (λ (q : LifelineView). WritesFront first.taken last.taken whole (rows_spelled diagram_layout q (map shows (drop (i + 1) rows)))) (sym c.in_ok-write_row.ensures.taken) further, written.fine ∙ c.loop-row.invariant.1)

pub returns : goal.returns
returns g c =
    let i = c.loop-row.row-index in
    let rows = c.args.rows.now in
    let diagram_layout = c.args.diagram_layout.now in
    let first = g.W.Sink.tape c.args.w.now in
    let mid = g.W.Sink.tape c.loop-row.w in
    let shows = g.R.Row.shows c.args.names.now in
    let none : map shows (drop i rows) ≡ [] = ap (map shows) (nil_from_length (drop i rows) (omega (arith, length-drop i rows, c.loop-row-test.false))) in
    let whole = rows_spelled diagram_layout c.args.lifeline_state.now (map shows rows) in
    all_parts first mid whole (subst (λ (rs : List ShownRowState). WritesFront first.taken mid.taken whole (rows_spelled diagram_layout c.loop-row.lifeline_state rs)) none c.loop-row.invariant.0) c.loop-row.invariant.1
