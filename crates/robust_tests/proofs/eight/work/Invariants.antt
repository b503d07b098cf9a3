use Rattle.std.proofs.Common.{◌≡◌}
use Rattle.robust.specs.MemberLaws.{seat_of}
use Rattle.robust_tests.proofs.eight.work.Given as goal

abbrev pub invariant-loop : goal.invariant-loop
invariant-loop g l = record { seat : seat_of l.member ≡ seat_of l.fn.member }
