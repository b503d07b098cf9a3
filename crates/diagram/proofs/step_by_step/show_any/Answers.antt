use Rattle.std.proofs.Common.{◌≡◌, ◌+◌, ◌∷◌, drop, [], sym, ap, ◌∙◌}
use Rattle.diagram.proofs.Common.{drop_more, flat_map-cons, events_in, events_shown}
use Rattle.diagram.proofs.NotEmpty.{front_none}
use Rattle.diagram.proofs.step_by_step.show_any.Goals as goal

pub returns-then-shows-clause-some : goal.returns-then-shows-clause-some
returns-then-shows-clause-some c is none =
    let i = c.loop-row.row-index in
    let rows = c.args.rows.now in
    let item = c.row-item.result in
    let e : drop i rows ≡ item ∷ drop (i + 1) rows = drop_more rows i item c.loop-row-test.true ∙ ap (λ x. x ∷ drop (i + 1) rows) (sym c.row-item.is) in
    let all : events_in (item ∷ drop (i + 1) rows) ≡ [] = ap events_in (sym e) ∙ c.loop-row.invariant ∙ none in
    c.shows.ensures.some c.if-shows.true
    (front_none (events_shown item.p item.act) (events_in (drop (i + 1) rows))
    (sym (flat_map-cons (λ row. events_shown row.p row.act) item (drop (i + 1) rows)) ∙ all))
