use Rattle.std.proofs.Common.{◌≡◌, ℕ, ◌≤◌, ◌<◌}
use Rattle.one_lock.proofs.LabCommon.{WasSent, place_of, CanSend}
use Rattle.one_lock.proofs.lab.crew.work.Given as goal

abbrev pub invariant-loop-seq : goal.invariant-loop-seq
invariant-loop-seq g l = record {
  place : place_of l.member ≡ place_of l.fn.member;
  ready : CanSend l.fn.spec.width l.member;
  sent : (seq : ℕ) → 1 ≤ seq → seq < l.seq → WasSent g.S.Sizes.named l.fn.spec.width l.fn.member.process seq;
}
