use Rattle.std.proofs.lemmas.Result.{on_ok_weaker}
use Rattle.rmeworld.proofs.WideWords.{front_from}
use Rattle.rmeworld.proofs.image.image_widener.push_front.Goals as goal

pub returns : goal.returns
returns c =
    on_ok_weaker c.push_part-2.result
    (λ e. front_from c.args.cells.now.items c.push_part.new.cells.items c.push_wide.new.cells.items c.push_part-2.new.cells.items c.args.words.now c.args.layout c.args.width c.in_ok-push_part.ensures c.in_ok-push_wide.ensures e)
    c.push_part-2.ensures
