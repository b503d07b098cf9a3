use Rattle.std.proofs.Common.{◌≡◌, ◌+◌, ◌∷◌, drop, [], sym, ap, ◌∙◌, arith}
use Rattle.diagram.proofs.Common.{drop_more, length-drop, nil_from_length}
use Rattle.diagram.proofs.Watching.{lines_next}
use Rattle.diagram.specs.Semantics.{lines_on}
use Rattle.diagram.proofs.session.opened.play_all.Goals as goal

pub loop-line-preserved : goal.loop-line-preserved
loop-line-preserved g c =
    let i = c.loop-line.line-index in
    let lines = c.args.lines.now in
    let item = c.line-item.result in
    let e : drop i lines ≡ item ∷ drop (i + 1) lines = drop_more lines i item c.loop-line-test.true ∙ ap (λ x. x ∷ drop (i + 1) lines) (sym c.line-item.is) in
    lines_next g.S.Simulation.semantics.after c.loop-line.simulation c.play_line.new.self item (drop i lines) (drop (i + 1) lines) e c.in_ok-play_line.ensures.after
    ∙ c.loop-line.invariant

pub returns : goal.returns
returns g c =
    let i = c.loop-line.line-index in
    let lines = c.args.lines.now in
    let none : drop i lines ≡ [] = nil_from_length (drop i lines) (omega (arith, length-drop i lines, c.loop-line-test.false)) in
    ap (λ ls. lines_on g.S.Simulation.semantics.after c.loop-line.simulation ls) (sym none) ∙ c.loop-line.invariant
