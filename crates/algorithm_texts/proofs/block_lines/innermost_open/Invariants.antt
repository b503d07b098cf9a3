use Rattle.std.proofs.Common.{◌≡◌, ◌+◌, ◌≤◌, count_by, length, drop, None}
use Rattle.algorithm_texts.specs.BlockLines.{begins_block, ends_block, innermost_open}
use Rattle.algorithm_texts.proofs.block_lines.innermost_open.Given as goal

-- no block of the lines from here on is open
abbrev pub invariant-loop-place : goal.invariant-loop-place
invariant-loop-place l = record {
  none : innermost_open (drop l.place l.lines) ≡ None;
  more : count_by ends_block (drop l.place l.lines) ≡ l.ended + count_by begins_block (drop l.place l.lines);
  few : l.ended + l.place ≤ length l.lines;
}

abbrev pub decreases-loop-place : goal.decreases-loop-place
decreases-loop-place l = l.place
