use Rattle.std.proofs.Common.{◌≡◌, reverse, take}
use Rattle.algorithm_texts.specs.LineDrafts.{is_looping}
use Rattle.algorithm_texts.proofs.blocks.is_looping.Given as goal

-- a loop of the name is among the blocks so far
abbrev pub invariant-loop-block : goal.invariant-loop-block
invariant-loop-block l = l.looping ≡ is_looping l.name (reverse (take l.block-index l.opened))
