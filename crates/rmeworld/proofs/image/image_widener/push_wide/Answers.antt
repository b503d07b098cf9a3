use Rattle.std.proofs.lemmas.Result.{on_ok_weaker}
use Rattle.rmeworld.proofs.WideWords.{padded_from}
use Rattle.rmeworld.proofs.image.image_widener.push_wide.Goals as goal

pub returns : goal.returns
returns c =
    on_ok_weaker c.push_zeros.result
    (λ e. padded_from c.args.cells.now.items c.push_part.new.cells.items c.push_zeros.new.cells.items c.args.words.now c.args.at c.args.count c.args.width c.requires.within c.in_ok-push_part.ensures e)
    c.push_zeros.ensures
