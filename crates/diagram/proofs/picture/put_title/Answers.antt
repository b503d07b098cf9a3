use Rattle.std.proofs.Common.{List, ℕ, [], ◌∷◌, ◌++◌, codes}
use Rattle.diagram.proofs.Joined.{joined, two_parts}
use Rattle.diagram.specs.Pictures.{around, reports, row_title}
use Rattle.diagram.proofs.picture.put_title.Goals as goal

pub returns : goal.returns
unfolding row_title
returns c =
    let front : List ℕ = around (codes "<title>process ") c.args.p (codes " ") in
    let lines : List ℕ = reports c.args.deed.now c.args.answer.now in
    let close : List ℕ = codes "</title>" in
    let end = joined c.put_text-3.result c.put_text-2.new.out.items c.put_reports.new.out.items c.put_text-3.new.out.items lines close c.in_ok-put_reports.ensures c.put_text-3.ensures in
    let rest = joined c.put_text-3.result c.put_text.new.out.items c.put_text-2.new.out.items c.put_text-3.new.out.items (10 ∷ []) (lines ++ close) c.in_ok-put_text-2.ensures end in
    joined c.put_text-3.result c.args.out.now.items c.put_text.new.out.items c.put_text-3.new.out.items (front ++ c.args.sign.now) (10 ∷ (lines ++ close))
    (two_parts c.args.out.now.items c.put_around.new.out.items c.put_text.new.out.items front c.args.sign.now c.in_ok-put_around.ensures c.in_ok-put_text.ensures) rest
