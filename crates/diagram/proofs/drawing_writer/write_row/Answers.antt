use Rattle.diagram.proofs.Common.{err_from_is_err_and, lifeline_state_shown}
use Rattle.diagram.proofs.NotEmpty.{row_some}
use Rattle.diagram.proofs.Written.{wants_memory}
use Rattle.diagram.specs.Drawings.{row_spelled}
use Rattle.diagram.proofs.drawing_writer.write_row.Goals as goal

pub returns-in_err-show-clause-written : goal.returns-in_err-show-clause-written
returns-in_err-show-clause-written g c =
    let p = err_from_is_err_and c.from_residual.result c.from_residual.ensures.1 in
    let diagram_layout = c.args.diagram_layout.now in
    let shown = g.R.Row.shows c.args.names.now c.args.row.now in
    let state = lifeline_state_shown c.args.lifeline_state.now shown in
    rw (p.1, p.2) (wants_memory (g.W.Sink.tape c.args.w.now) (row_spelled diagram_layout state shown) (row_some diagram_layout state shown))
