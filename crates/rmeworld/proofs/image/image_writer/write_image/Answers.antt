use Rattle.std.proofs.Common.{[], ◌∷◌, ◌++◌, ap, ◌∙◌}
use Rattle.serde_json.specs.Written.{compact_text}
use Rattle.rmeworld.proofs.ImageTexts.{no_float}
use Rattle.rmeworld.proofs.ImageSpelt.{line_spells}
use Rattle.rmeworld.proofs.image.image_writer.write_image.Goals as goal

pub returns-clause-ok : goal.returns-clause-ok
returns-clause-ok c =
    let text = c.in_ok-text.ensures.text (rw c.in_ok-value.ensures (no_float c.args.image.now)) in
    c.in_ok-push.ensures.items ∙ ap (λ xs. xs ++ 10 ∷ []) (text ∙ ap compact_text c.in_ok-value.ensures)

pub returns-clause-spelled : goal.returns-clause-spelled
returns-clause-spelled c =
    let text = c.in_ok-text.ensures in
    let back = rw c.in_ok-value.ensures at text.reads_back in
    line_spells c.args.image.now _ _ text.utf8 text.compact back c.in_ok-push.ensures.items
