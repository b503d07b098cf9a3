use Rattle.std.proofs.Common.{◌≡◌, ◌≤◌, length, map, take, vec_len, vec_capacity}
use Rattle.rmeworld.proofs.ImageCommon.{view, whole_data}
use Rattle.rmeworld.proofs.image.image_writer.list_value.Given as goal

abbrev pub invariant-loop-number : goal.invariant-loop-number
invariant-loop-number l = record {
  same : map view l.items.items ≡ map whole_data (take l.number-index l.numbers);
  count : vec_len l.items ≡ l.number-index;
  room : length l.numbers ≤ vec_capacity l.items;
}
