use Rattle.std.proofs.lemmas.Result.{on_ok_weaker}
use Rattle.rmeworld.proofs.WideWords.{place_from}
use Rattle.rmeworld.proofs.image.image_widener.push_place.Goals as goal

pub returns : goal.returns
returns c =
    on_ok_weaker c.push_wide.result
    (λ e. place_from c.args.cells.now.items c.push_part.new.cells.items c.push_wide.new.cells.items c.args.words.now c.args.layout c.args.width c.args.a c.place-at.result c.place-at.ensures.at c.in_ok-push_part.ensures e)
    c.push_wide.ensures
