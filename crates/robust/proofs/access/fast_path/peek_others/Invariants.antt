use Rattle.std.proofs.Common.{◌≤◌}
use Rattle.robust.proofs.AccessCommon.{Door, above, Way}
use Rattle.robust.proofs.access.fast_path.peek_others.Given as goal

abbrev pub invariant-loop-j : goal.invariant-loop-j
invariant-loop-j l = record {
  way : Way l.fn.port l.taken l.port (Door (above l.fn.port.setup.layout.procs l.fn.port.by l.j) l.greatest);
  few : l.taken ≤ l.j;
}
