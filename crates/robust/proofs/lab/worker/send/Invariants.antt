use Rattle.std.proofs.Common.{◌≡◌, ℕ, None}
use Rattle.robust.proofs.Common.{Append, Lock, refusal_now, free_to_start, own_of, AreInWorkerOrder, IsSending, SendsOnly, seat_of}
use Rattle.robust.proofs.Failing.{Grown}
use Rattle.robust.proofs.lab.worker.send.Given as goal

abbrev pub invariant-loop : goal.invariant-loop
invariant-loop g l = record {
  seat : seat_of l.member ≡ seat_of l.fn.member;
  only : (width k : ℕ) → IsSending width k l.fn.member.seat_view.by (Append l.fn.seq l.fn.value) → SendsOnly width k l.fn.member → SendsOnly width k l.member;
  out : refusal_now (free_to_start l.member) Lock ≡ None;
  ordered : AreInWorkerOrder None (own_of l.fn.member.seat_view) → AreInWorkerOrder None (own_of l.member.seat_view);
  grown : Grown l.fn.member l.member;
}
