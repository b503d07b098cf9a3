use Rattle.std.proofs.Common.{◌≡◌, ℕ, ◌+◌, ◌∷◌, List, drop, [], map, refl, sym, ap, subst, ◌∙◌, arith}
use Rattle.diagram.proofs.Common.{drop_more, length-drop, nil_from_length, err_from_is_err_and, WritesFront, DiagramRow, row_of, events_in, events_shown, MarkedStepsState, marked_rows_text, marked_steps_after}
use Rattle.diagram.proofs.Steps.{followed_more}
use Rattle.diagram.proofs.Written.{nothing_yet, one_more_part, all_parts, stops_within}
use Rattle.diagram.proofs.step_by_step.write_rows.Goals as goal

pub loop-row-init : goal.loop-row-init
loop-row-init g c = (nothing_yet (g.W.Sink.tape c.args.w.now) _, refl)

pub returns-in_err-write_shown : goal.returns-in_err-write_shown
returns-in_err-write_shown g c =
    let i = c.loop-row.row-index in
    let rows = c.args.rows.now in
    let item = c.row-item.result in
    let layout = c.args.layout.now in
    let steps = c.loop-row.steps in
    let first = g.W.Sink.tape c.args.w.now in
    let mid = g.W.Sink.tape c.loop-row.w in
    let last = g.W.Sink.tape c.write_shown.new.w in
    let e : drop i rows ≡ item ∷ drop (i + 1) rows = drop_more rows i item c.loop-row-test.true ∙ ap (λ x. x ∷ drop (i + 1) rows) (sym c.row-item.is) in
    let p = err_from_is_err_and c.from_residual.result c.from_residual.ensures.1 in
    let whole = marked_rows_text layout c.args.steps.now (map row_of (events_in rows)) in
    let shown = map row_of (events_shown item.p item.act) in
    let front = subst (λ (t : List ℕ). WritesFront first.taken mid.taken whole t) (ap (λ (rs : List DiagramRow). marked_rows_text layout steps (map row_of (events_in rs))) e ∙ followed_more layout steps item (drop (i + 1) rows)) c.loop-row.invariant.0 in
    rw (p.1, p.2)
    (stops_within first mid last whole (marked_rows_text layout steps shown) (marked_rows_text layout (marked_steps_after steps shown) (map row_of (events_in (drop (i + 1) rows)))) c.in_err-write_shown.field-0.0 front c.loop-row.invariant.1 c.in_err-write_shown.ensures.0)

pub loop-row-preserved : goal.loop-row-preserved
loop-row-preserved g c =
    let i = c.loop-row.row-index in
    let rows = c.args.rows.now in
    let item = c.row-item.result in
    let layout = c.args.layout.now in
    let steps = c.loop-row.steps in
    let first = g.W.Sink.tape c.args.w.now in
    let mid = g.W.Sink.tape c.loop-row.w in
    let last = g.W.Sink.tape c.write_shown.new.w in
    let e : drop i rows ≡ item ∷ drop (i + 1) rows = drop_more rows i item c.loop-row-test.true ∙ ap (λ x. x ∷ drop (i + 1) rows) (sym c.row-item.is) in
    let whole = marked_rows_text layout c.args.steps.now (map row_of (events_in rows)) in
    let shown = map row_of (events_shown item.p item.act) in
    let front = subst (λ (t : List ℕ). WritesFront first.taken mid.taken whole t) (ap (λ (rs : List DiagramRow). marked_rows_text layout steps (map row_of (events_in rs))) e ∙ followed_more layout steps item (drop (i + 1) rows)) c.loop-row.invariant.0 in
    let written = c.in_ok-write_shown.ensures.0 in
    let further = one_more_part first mid last whole (marked_rows_text layout steps shown) (marked_rows_text layout (marked_steps_after steps shown) (map row_of (events_in (drop (i + 1) rows)))) front written in
    (subst (λ (ps : MarkedStepsState). WritesFront first.taken last.taken whole (marked_rows_text layout ps (map row_of (events_in (drop (i + 1) rows))))) (sym c.in_ok-write_shown.ensures.1) further, written.fine ∙ c.loop-row.invariant.1)

pub returns : goal.returns
returns g c =
    let i = c.loop-row.row-index in
    let rows = c.args.rows.now in
    let layout = c.args.layout.now in
    let first = g.W.Sink.tape c.args.w.now in
    let mid = g.W.Sink.tape c.loop-row.w in
    let none : drop i rows ≡ [] = nil_from_length (drop i rows) (omega (arith, length-drop i rows, c.loop-row-test.false)) in
    let whole = marked_rows_text layout c.args.steps.now (map row_of (events_in rows)) in
    all_parts first mid whole (subst (λ (rs : List DiagramRow). WritesFront first.taken mid.taken whole (marked_rows_text layout c.loop-row.steps (map row_of (events_in rs)))) none c.loop-row.invariant.0) c.loop-row.invariant.1
