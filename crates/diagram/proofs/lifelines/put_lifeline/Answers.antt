use Rattle.std.proofs.Common.{◌++◌, ap, ◌∙◌}
use Rattle.diagram.proofs.Common.{codes, class_of, lifeline}
use Rattle.diagram.proofs.Joined.{joined_three}
use Rattle.diagram.proofs.lifelines.put_lifeline.Goals as goal

pub returns : goal.returns
unfolding lifeline
returns c =
    joined_three c.put_around.result _ _ _ _ (codes "<rect class='") (class_of c.args.phase) _ c.in_ok-put_text.ensures (c.in_ok-put_text-2.ensures ∙ ap (λ t. c.put_text.new.out.items ++ t) c.class_of.ensures) c.put_around.ensures
