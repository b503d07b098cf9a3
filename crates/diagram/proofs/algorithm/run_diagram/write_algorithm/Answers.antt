use Rattle.std.proofs.Common.{◌≡◌, ℕ, List, map, refl, subst}
use Rattle.diagram.proofs.Common.{err_from_is_err_and, WritesText}
use Rattle.diagram.proofs.NotEmpty.{drawing_some}
use Rattle.diagram.proofs.Written.{wants_memory}
use Rattle.diagram.specs.AlgorithmDrawings.{algorithm_text, end_by}
use Rattle.diagram.specs.AlgorithmRows.{shown_in}
use Rattle.diagram.specs.Drawings.{spelled_from}
use Rattle.diagram.proofs.algorithm.run_diagram.write_algorithm.Goals as goal

pub returns-in_err-lifeline_state : goal.returns-in_err-lifeline_state
returns-in_err-lifeline_state g c =
    let p = err_from_is_err_and c.from_residual.result c.from_residual.ensures.1 in
    rw (p.1, p.2) (wants_memory (g.W.Sink.tape c.args.w.now) _ (drawing_some _ _ _ _ _))

pub returns : goal.returns
returns g c =
    let d = c.args.drawing.now in
    let a = c.args.algorithm.now in
    let o = c.outline_of-outline.result in
    let same : spelled_from o.mailbox o.diagram_layout c.in_ok-lifeline_state.lifeline_state (map (shown_in a) c.as_slice.result.now) o.end ≡ algorithm_text c.args.style c.args.head a d.rows.items (end_by d.refused d.verdict) =
    rw (c.outline_of-outline.ensures, c.in_ok-lifeline_state.ensures, c.as_slice.ensures.value) refl in
    subst (λ (text : List ℕ). WritesText (g.W.Sink.tape c.args.w.now) (g.W.Sink.tape c.write_parts.new.w) text c.write_parts.result) same c.write_parts.ensures
