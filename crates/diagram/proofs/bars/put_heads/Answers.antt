use Rattle.std.proofs.Common.{◌+◌, ◌++◌, drop, sym, ap, ◌∙◌, append_assoc, List}
use Rattle.diagram.proofs.Common.{drop_more, LifelinePhase, Rest, head, heads}
use Rattle.diagram.proofs.bars.put_heads.Goals as goal

pub loop-p-preserved : goal.loop-p-preserved
loop-p-preserved c =
    let p = c.loop-p.p in
    let phases = c.args.phases.now in
    let e = drop_more phases p Rest c.loop-p-test.true in
    rw c.in_ok-put_number.ensures
    (append_assoc c.loop-p.out.items (head p) (heads (p + 1) (drop (p + 1) phases)) ∙ ap (λ (t : List LifelinePhase). c.loop-p.out.items ++ heads p t) (sym e) ∙ c.loop-p.invariant)
