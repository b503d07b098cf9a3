use Rattle.std.proofs.Common.{◌≡◌, ◌+◌, ◌∷◌, drop, get_or, sym, ap, ◌∙◌}
use Rattle.rmecore.specs.declared.own.Own.{Own}
use Rattle.diagram.proofs.Common.{drop_more}
use Rattle.diagram.proofs.Watching.{holder_here}
use Rattle.diagram.specs.Standings.{holder}
use Rattle.diagram.proofs.session.positions.holder.Goals as goal

pub returns-then-is_inside : goal.returns-then-is_inside
returns-then-is_inside c =
    let i = c.loop-own.own-index in
    let owns = c.args.owns.now in
    let none : Own = record { choosing = 0; number = 0; inside = 0 } in
    let p = c.loop-own.p in
    let e : drop i owns ≡ get_or owns i none ∷ drop (i + 1) owns = drop_more owns i none c.loop-own-test.true in
    holder_here p (get_or owns i none) (drop (i + 1) owns) (sym c.is_inside.ensures ∙ c.if-is_inside.true) ∙ ap (λ xs. holder p xs) (sym e) ∙ c.loop-own.invariant.0
