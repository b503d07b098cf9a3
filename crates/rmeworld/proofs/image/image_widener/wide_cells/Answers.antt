use Rattle.std.proofs.Common.{◌++◌, ap, ◌∙◌}
use Rattle.rmeworld.proofs.ImageCommon.{wide_words}
use Rattle.rmeworld.proofs.image.image_widener.wide_cells.Goals as goal

pub returns : goal.returns
returns c = c.in_ok-push_all.ensures ∙ ap (λ xs. xs ++ wide_words c.args.layout c.args.width c.args.words.now c.args.layout.cap) c.in_ok-cells.ensures.items
