use Rattle.std.proofs.Common.{◌≡◌, ◌≤◌, length, map, take, vec_len, vec_capacity}
use Rattle.rmeworld.proofs.ImageCommon.{view, own_data}
use Rattle.rmeworld.proofs.image.form.owns.Given as goal

abbrev pub invariant-loop-item : goal.invariant-loop-item
invariant-loop-item l = record {
  same : map view (take l.item-index l.item-items) ≡ map own_data l.owns.items;
  count : vec_len l.owns ≡ l.item-index;
  room : length l.item-items ≤ vec_capacity l.owns;
}
