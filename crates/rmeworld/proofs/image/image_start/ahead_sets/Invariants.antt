use Rattle.std.proofs.Common.{◌≡◌, ◌≤◌, vec_capacity, ℕ, ◌<◌, [], length, map, slice_index_or}
use Rattle.rmeworld.proofs.ImageCommon.{start_of, own_at, is_named}
use Rattle.rmeworld.proofs.image.image_start.ahead_sets.Given as goal

abbrev pub invariant-loop-p : goal.invariant-loop-p
invariant-loop-p l = record {
  each : length l.sets.items ≡ l.p;
  room : length l.lock ≤ vec_capacity l.sets;
  ahead : (p q : ℕ) → p < l.p → is_named (slice_index_or (map (λ names. names.items) l.sets.items) p []) q ≡ (start_of (own_at l.lock)).ahead p q;
}
