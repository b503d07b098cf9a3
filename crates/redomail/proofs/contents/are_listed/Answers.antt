use Rattle.std.proofs.Common.{refl, ◌*◌, ◌+◌}
use Rattle.redomail.proofs.Listed.{listed_none, listed_more}
use Rattle.redomail.proofs.contents.are_listed.Goals as goal

pub loop-block-init : goal.loop-block-init
loop-block-init c = listed_none _ _ _ _

pub loop-block-preserved : goal.loop-block-preserved
loop-block-preserved c =
    listed_more _ _ _ _ c.loop-block.block (c.loop-block.block * 64) (c.loop-block.block * 64 + 64) refl refl (c.if-not-are_listed_from.ensures.0 refl) c.loop-block.invariant
