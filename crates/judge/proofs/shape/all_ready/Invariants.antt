use Rattle.std.proofs.Common.{◌≡◌, ◌<◌, ℕ, true, slice_index_or}
use Rattle.judge.proofs.Common.{is_ready, phase_in}
use Rattle.judge.proofs.shape.all_ready.Given as goal

abbrev pub invariant-loop-name : goal.invariant-loop-name
invariant-loop-name l = (k d : ℕ) → k < l.name-index → is_ready (phase_in l.phases (slice_index_or l.names k d)) ≡ true
