use Rattle.std.proofs.Common.{◌≡◌, ℕ, ◌+◌, ◌<◌, None}
use Rattle.robust.proofs.Common.{Lock, refusal_now, free_to_start, own_of, AreInWorkerOrder, HasShown, SendsOnly, seat_of}
use Rattle.robust.proofs.lab.worker.work.Given as goal

abbrev pub invariant-loop-seq : goal.invariant-loop-seq
invariant-loop-seq g l = record {
  seat : seat_of l.member ≡ seat_of l.fn.member;
  only : SendsOnly l.fn.spec.width l.fn.spec.messages l.member;
  shown : (n : ℕ) → n + 1 ≡ l.seq → 0 < n → HasShown n l.member;
  out : refusal_now (free_to_start l.member) Lock ≡ None;
  ordered : AreInWorkerOrder None (own_of l.member.seat_view);
}
