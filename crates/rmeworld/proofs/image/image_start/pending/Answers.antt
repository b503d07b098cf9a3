use Rattle.std.proofs.Common.{arith}
use Rattle.rmeworld.proofs.ImageCommon.{place_low, layout_of}
use Rattle.rmeworld.proofs.image.image_start.pending.Goals as goal

pub value_at-requires-clause-within : goal.value_at-requires-clause-within
value_at-requires-clause-within c =
    let i = c.args.image.now in
    rw c.as_slice-words.ensures (omega (arith, place_low (layout_of i) i.cap, c.requires.filled (omega arith)))
