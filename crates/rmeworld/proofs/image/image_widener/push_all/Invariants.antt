use Rattle.std.proofs.Common.{◌≡◌, ◌++◌}
use Rattle.rmeworld.proofs.ImageCommon.{wide_words}
use Rattle.rmeworld.proofs.image.image_widener.push_all.Given as goal

abbrev pub invariant-loop-a : goal.invariant-loop-a
invariant-loop-a l = l.cells.items ≡ l.fn.cells.items ++ wide_words l.fn.layout l.width l.words l.a
