use Rattle.std.proofs.Common.{◌≡◌, take, count_by}
use Rattle.judge.proofs.Common.{is_dead_in}
use Rattle.judge.proofs.place.count_dead_in.Given as goal

abbrev pub invariant-loop-phase : goal.invariant-loop-phase
invariant-loop-phase l = l.count ≡ count_by is_dead_in (take l.phase-index l.phases)
