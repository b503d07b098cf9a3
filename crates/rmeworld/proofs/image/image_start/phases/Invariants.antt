use Rattle.std.proofs.Common.{◌≡◌, ◌≤◌, length, map, take, vec_len, vec_capacity}
use Rattle.rmeworld.proofs.ImageCommon.{phase_by}
use Rattle.rmeworld.proofs.image.image_start.phases.Given as goal

abbrev pub invariant-loop-own : goal.invariant-loop-own
invariant-loop-own l = record {
  same : l.phases.items ≡ map phase_by (take l.own-index l.lock);
  count : vec_len l.phases ≡ l.own-index;
  room : length l.lock ≤ vec_capacity l.phases;
}
