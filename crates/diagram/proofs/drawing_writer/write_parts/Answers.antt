use Rattle.std.proofs.Common.{◌++◌, List, map, Err, refl, subst, ◌∙◌}
use Rattle.diagram.proofs.Common.{err_from_is_err_and, Writes, LifelinePhase, WritesText, rows_spelled, top_in, end_in}
use Rattle.diagram.specs.Drawings.{spelled_from}
use Rattle.diagram.proofs.Written.{nothing_yet, one_more_part, stops_within, spells_rest}
use Rattle.diagram.proofs.drawing_writer.write_parts.Goals as goal

pub returns-in_err-write_top : goal.returns-in_err-write_top
unfolding spelled_from
returns-in_err-write_top g c =
    let t = g.W.Sink.tape c.args.w.now in
    let u = g.W.Sink.tape c.write_top.new.w in
    let diagram_layout = c.args.outline.now.diagram_layout in
    let mailbox = c.args.outline.now.mailbox in
    let lifeline_state = c.args.lifeline_state.now in
    let top = top_in diagram_layout.style mailbox diagram_layout lifeline_state.phases in
    let rows = rows_spelled diagram_layout lifeline_state (map (g.R.Row.shows c.args.names.now) c.args.rows.now) in
    let end = end_in diagram_layout.style diagram_layout c.args.outline.now.end in
    let whole = top ++ (rows ++ end) in
    let p = err_from_is_err_and c.from_residual.result c.from_residual.ensures.1 in
    let stopped = subst (λ (ps : List LifelinePhase). WritesText {A = Unit {0}} t u (top_in diagram_layout.style mailbox diagram_layout ps) (Err c.in_err-write_top.field-0.0)) c.phases.ensures c.in_err-write_top.ensures in
    rw (p.1, p.2) (stops_within t t u whole top (rows ++ end) c.in_err-write_top.field-0.0 (nothing_yet t whole) refl stopped)

pub returns-in_err-write_rows : goal.returns-in_err-write_rows
unfolding spelled_from
returns-in_err-write_rows g c =
    let t = g.W.Sink.tape c.args.w.now in
    let u = g.W.Sink.tape c.write_top.new.w in
    let diagram_layout = c.args.outline.now.diagram_layout in
    let mailbox = c.args.outline.now.mailbox in
    let lifeline_state = c.args.lifeline_state.now in
    let top = top_in diagram_layout.style mailbox diagram_layout lifeline_state.phases in
    let rows = rows_spelled diagram_layout lifeline_state (map (g.R.Row.shows c.args.names.now) c.args.rows.now) in
    let end = end_in diagram_layout.style diagram_layout c.args.outline.now.end in
    let whole = top ++ (rows ++ end) in
    let v = g.W.Sink.tape c.write_rows.new.w in
    let first = subst (λ (ps : List LifelinePhase). Writes t u (top_in diagram_layout.style mailbox diagram_layout ps)) c.phases.ensures c.in_ok-write_top.ensures in
    let p = err_from_is_err_and c.from_residual-in_err-write_rows.result c.from_residual-in_err-write_rows.ensures.1 in
    rw (p.1, p.2) (stops_within t u v whole rows end c.in_err-write_rows.field-0.0 (one_more_part t t u whole top (rows ++ end) (nothing_yet t whole) first) first.fine c.in_err-write_rows.ensures)

pub returns : goal.returns
unfolding spelled_from
returns g c =
    let t = g.W.Sink.tape c.args.w.now in
    let u = g.W.Sink.tape c.write_top.new.w in
    let diagram_layout = c.args.outline.now.diagram_layout in
    let mailbox = c.args.outline.now.mailbox in
    let lifeline_state = c.args.lifeline_state.now in
    let top = top_in diagram_layout.style mailbox diagram_layout lifeline_state.phases in
    let rows = rows_spelled diagram_layout lifeline_state (map (g.R.Row.shows c.args.names.now) c.args.rows.now) in
    let end = end_in diagram_layout.style diagram_layout c.args.outline.now.end in
    let whole = top ++ (rows ++ end) in
    let v = g.W.Sink.tape c.write_rows.new.w in
    let x = g.W.Sink.tape c.write_end.new.w in
    let first = subst (λ (ps : List LifelinePhase). Writes t u (top_in diagram_layout.style mailbox diagram_layout ps)) c.phases.ensures c.in_ok-write_top.ensures in
    let second = c.in_ok-write_rows.ensures in
    spells_rest t v x whole end c.write_end.result
    (one_more_part t u v whole rows end (one_more_part t t u whole top (rows ++ end) (nothing_yet t whole) first) second) (second.fine ∙ first.fine) c.write_end.ensures
