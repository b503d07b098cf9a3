use Rattle.std.proofs.Common.{◌≡◌, ◌+◌}
use Rattle.robust.proofs.AccessCommon.{process_state_now, stored_so_far, Unanswered, IsClear}
use Rattle.robust.specs.FastAppend.{IsSenderOf}
use Rattle.robust.proofs.access.fast_append.put_row.Given as goal

abbrev pub invariant-loop-j : goal.invariant-loop-j
invariant-loop-j l = record {
  at : process_state_now l.port ≡ stored_so_far l.fn.entry (l.fn.step + l.j);
  unanswered : Unanswered l.fn.port l.j 0 l.port;
  clear : IsClear l.port;
  of : IsSenderOf l.port l.fn.entry;
}
