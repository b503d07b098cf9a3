use Rattle.std.proofs.Common.{◌≡◌, ◌≤◌, length, map, take, vec_len, vec_capacity}
use Rattle.rmeworld.proofs.ImageCommon.{view, whole_data}
use Rattle.rmeworld.proofs.image.form.numbers.Given as goal

abbrev pub invariant-loop-item : goal.invariant-loop-item
invariant-loop-item l = record {
  same : map view (take l.item-index l.item-items) ≡ map whole_data l.numbers.items;
  count : vec_len l.numbers ≡ l.item-index;
  room : length l.item-items ≤ vec_capacity l.numbers;
}
