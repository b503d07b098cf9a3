use Rattle.std.proofs.Common.{◌≡◌, ◌++◌, map, take}
use Rattle.diagram.specs.AlgorithmRows.{further_row}
use Rattle.diagram.proofs.algorithm.row_collector.put_further.Given as goal

abbrev pub invariant-loop-one : goal.invariant-loop-one
invariant-loop-one l = l.rows.items ≡ l.fn.rows.items ++ map (further_row l.p) (take l.one-index l.reports)
