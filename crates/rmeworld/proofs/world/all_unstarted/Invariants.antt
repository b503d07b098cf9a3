use Rattle.std.proofs.Common.{◌≡◌, ◌≤◌, length, map, take, vec_len, vec_capacity}
use Rattle.rmeworld.proofs.Common.{new_tally}
use Rattle.rmeworld.proofs.world.all_unstarted.Given as goal

abbrev pub invariant-loop-own : goal.invariant-loop-own
invariant-loop-own l = record {
  same : l.tallies.items ≡ map new_tally (take l.own-index l.words);
  count : vec_len l.tallies ≡ l.own-index;
  room : length l.words ≤ vec_capacity l.tallies;
}
