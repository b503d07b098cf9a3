use Rattle.std.proofs.Common.{◌≡◌, ◌<◌, ℕ, List, true, map, All, slice_index_or}
use Rattle.judge.proofs.Common.{is_ready, phase_in}
use Rattle.judge.proofs.shape.all_sets_ready.Given as goal

abbrev pub invariant-loop-names : goal.invariant-loop-names
invariant-loop-names l = (k : ℕ) (d : List ℕ) → k < l.names-index → All (λ q. is_ready (phase_in l.phases q) ≡ true) (slice_index_or (map (λ names. names.items) l.sets) k d)
