use Rattle.std.proofs.Common.{◌≡◌, ◌+◌, ◌≤◌, false}
use Rattle.robust.proofs.AccessCommon.{process_state_now, IsSame, Unanswered, waits_at}
use Rattle.robust.proofs.access.in_line.pass_others.Given as goal

abbrev pub invariant-loop-j : goal.invariant-loop-j
invariant-loop-j l = record {
  at : process_state_now l.port ≡ waits_at l.fn.port l.number l.j false;
  unanswered : Unanswered l.fn.port l.taken 0 l.port;
  same : IsSame l.fn.port l.port;
  few : l.taken ≤ l.j + l.j;
  most : l.j ≤ 64;
}
