use Rattle.std.proofs.Common.{◌++◌, ◌∙◌, List, ℕ, ap}
use Rattle.diagram.specs.AlgorithmDrawings.{algorithm_text, end_by}
use Rattle.diagram.specs.declared.diagram_layout.Style.TheVariants.{Svg}
use Rattle.diagram.proofs.algorithm.page.picture_of.Goals as goal

pub returns-in-Ok : goal.returns-in-Ok
returns-in-Ok c =
    let d = c.args.drawing.now in
    c.in-Ok.ensures.taken ∙ ap (λ (taken : List ℕ). taken ++ algorithm_text Svg c.args.head c.args.algorithm.now d.rows.items (end_by d.refused d.verdict)) c.new-page.ensures.bytes
