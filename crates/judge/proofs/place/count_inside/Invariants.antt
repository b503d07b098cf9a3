use Rattle.std.proofs.Common.{◌≡◌, take, count_by}
use Rattle.judge.proofs.Common.{is_inside}
use Rattle.judge.proofs.place.count_inside.Given as goal

abbrev pub invariant-loop-phase : goal.invariant-loop-phase
invariant-loop-phase l = l.count ≡ count_by is_inside (take l.phase-index l.phases)
