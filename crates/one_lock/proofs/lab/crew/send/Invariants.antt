use Rattle.std.proofs.Common.{◌≡◌, length}
use Rattle.one_lock.proofs.LabCommon.{place_of, CanSend}
use Rattle.one_lock.proofs.lab.crew.send.Given as goal

abbrev pub invariant-loop : goal.invariant-loop
invariant-loop g l = record {
  place : place_of l.member ≡ place_of l.fn.member;
  ready : CanSend (length l.fn.value) l.member;
}
