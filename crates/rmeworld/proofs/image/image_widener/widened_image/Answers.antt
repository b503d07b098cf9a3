use Rattle.std.proofs.Common.{ap, ◌∙◌, arith}
use Rattle.rmeworld.proofs.ImageCommon.{layout_of, IsWider, wide_words}
use Rattle.rmeworld.proofs.ImageWidens.{wider_is_lawful}
use Rattle.rmeworld.proofs.WideWords.{long, wider_by}
use Rattle.rmeworld.proofs.image.image_widener.widened_image.Goals as goal

pub wide_cells-requires-clause-long : goal.wide_cells-requires-clause-long
wide_cells-requires-clause-long c =
    let i = c.args.image.now in
    rw (c.layout.ensures, c.as_slice.ensures) (long (layout_of i) c.args.width i.cells (c.requires.lawful.heads (omega arith)) c.requires.least)

made : (c : goal.After-new-2) → IsWider c.args.width c.args.image.now (record { cap = c.args.image.now.cap; cells = c.new.result; limit = c.args.image.now.limit; lock = c.new-2.result; version = 2; width = c.args.width })
made c =
    let i = c.args.image.now in
    let by_layout = ap (λ l. wide_words l c.args.width c.as_slice.result.now l.cap) c.layout.ensures in
    let by_words = ap (λ xs. wide_words (layout_of i) c.args.width xs i.cap) c.as_slice.ensures in
    let cells = c.new.ensures ∙ c.in_ok-cells.ensures ∙ by_layout ∙ by_words in
    wider_by c.args.width i c.new.result c.new-2.result (c.requires.lawful.heads (omega arith)) c.requires.least cells (grind (arith, c.new-2.ensures))

pub returns-clause-wider : goal.returns-clause-wider
returns-clause-wider c = made c

pub returns-clause-lawful : goal.returns-clause-lawful
returns-clause-lawful c = wider_is_lawful c.args.width c.args.image.now _ c.requires.lawful c.requires.least c.requires.most (made c)
