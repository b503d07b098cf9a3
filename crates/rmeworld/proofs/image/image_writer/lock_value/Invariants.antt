use Rattle.std.proofs.Common.{◌≡◌, ◌≤◌, length, map, take, vec_len, vec_capacity}
use Rattle.rmeworld.proofs.ImageCommon.{view, own_data}
use Rattle.rmeworld.proofs.image.image_writer.lock_value.Given as goal

abbrev pub invariant-loop-own : goal.invariant-loop-own
invariant-loop-own l = record {
  same : map view l.items.items ≡ map own_data (take l.own-index l.lock);
  count : vec_len l.items ≡ l.own-index;
  room : length l.lock ≤ vec_capacity l.items;
}
