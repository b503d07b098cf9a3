use Rattle.std.proofs.Common.{◌≡◌, ◌<◌, ℕ, [], length, map, slice_index, slice_index_or}
use Rattle.judge.proofs.Common.{HasBits, is_named}
use Rattle.judge.proofs.rows.rows_of.Given as goal

abbrev pub invariant-loop-names : goal.invariant-loop-names
invariant-loop-names l =
    (length l.rows.items ≡ l.names-index)
    × ((p : ℕ) → p < l.names-index → HasBits (slice_index l.rows.items p) 64 (is_named (slice_index_or (map (λ names. names.items) l.sets) p [])))
