use Rattle.std.proofs.Common.{◌≡◌, ℕ, List, map, true, refl, subst}
use Rattle.diagram.proofs.Common.{WritesText}
use Rattle.diagram.specs.Drawings.{diagram_layout_of, drawing_text, spelled_from}
use Rattle.diagram.specs.ShownRows.{shown_of}
use Rattle.diagram.proofs.Common.{err_from_is_err_and}
use Rattle.diagram.proofs.NotEmpty.{drawing_some}
use Rattle.diagram.proofs.Written.{wants_memory}
use Rattle.diagram.proofs.drawing_writer.write_drawing.Goals as goal

pub returns-in_err-lifeline_state : goal.returns-in_err-lifeline_state
returns-in_err-lifeline_state g c =
    let p = err_from_is_err_and c.from_residual.result c.from_residual.ensures.1 in
    rw (p.1, p.2) (wants_memory (g.W.Sink.tape c.args.w.now) _ (drawing_some _ _ _ _ _))

pub returns : goal.returns
returns g c =
    let d = c.args.drawing.now in
    let same : spelled_from true c.diagram_layout_of.result c.in_ok-lifeline_state.lifeline_state (map (shown_of c.diagram_layout_of.result.layout) c.as_slice.result.now) d.end ≡ drawing_text (diagram_layout_of c.args.style d.head d.rows.items d.end) d.first d.rows.items d.end = rw (c.diagram_layout_of.ensures, c.in_ok-lifeline_state.ensures, c.as_slice.ensures.value) refl in
    subst (λ (text : List ℕ). WritesText (g.W.Sink.tape c.args.w.now) (g.W.Sink.tape c.write_parts.new.w) text c.write_parts.result) same c.write_parts.ensures
