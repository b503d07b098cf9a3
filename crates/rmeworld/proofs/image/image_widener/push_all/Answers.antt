use Rattle.rmeworld.proofs.WideWords.{one_place_more}
use Rattle.rmeworld.proofs.image.image_widener.push_all.Goals as goal

pub loop-a-preserved : goal.loop-a-preserved
loop-a-preserved c =
    one_place_more c.args.cells.now.items c.loop-a.cells.items c.push_place.new.cells.items c.args.words.now c.args.layout c.args.width c.loop-a.a c.loop-a.invariant c.in_ok-push_place.ensures
