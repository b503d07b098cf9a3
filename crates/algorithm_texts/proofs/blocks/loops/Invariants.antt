use Rattle.std.proofs.Common.{◌≡◌, ◌≤◌, reverse, take}
use Rattle.algorithm_texts.specs.LineDrafts.{loops}
use Rattle.algorithm_texts.proofs.blocks.loops.Given as goal

-- the loops that are counted so far
abbrev pub invariant-loop-block : goal.invariant-loop-block
invariant-loop-block l = record {
  counted : l.count ≡ loops (reverse (take l.block-index l.opened));
  few : l.count ≤ l.block-index;
}
