use Rattle.std.proofs.Common.{◌≡◌}
use Rattle.redomail.proofs.Common.{script_left}
use Rattle.redomail.specs.Cells.{steps_left}
use Rattle.redomail.proofs.OnWay.{IsReachedBy}
use Rattle.redomail.proofs.cells.run_task.Given as goal

abbrev pub invariant-loop-i : goal.invariant-loop-i
invariant-loop-i g l = record {
  by : IsReachedBy (script_left l.initial.job) (g.C.Cells.words l.initial.cells) (script_left l.job) (g.C.Cells.words l.cells) (g.C.Cells.calls l.initial.cells) (g.C.Cells.calls l.cells);
  calm : g.C.Cells.stops l.cells ≡ g.C.Cells.stops l.initial.cells;
}

abbrev pub decreases-loop-i : goal.decreases-loop-i
decreases-loop-i g l = steps_left (script_left l.job) (g.C.Cells.words l.cells)
