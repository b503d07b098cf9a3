use Rattle.std.proofs.Common.{Ok, Err}
use Rattle.diagram.proofs.RowCollections.{collected}
use Rattle.diagram.proofs.row_collector.take_lines.Goals as goal

pub returns-in-Ok : goal.returns-in-Ok
returns-in-Ok g c = collected g.M.Machine.behaviour _ _ _ _ _ (Ok c.in-Ok.field-0) c.in-Ok.ensures

pub returns-in-Err : goal.returns-in-Err
returns-in-Err g c = rw c.stop_of.ensures (collected g.M.Machine.behaviour _ _ _ _ _ (Err (c.in-Err.line, c.in-Err.stop)) c.in-Err.ensures)
