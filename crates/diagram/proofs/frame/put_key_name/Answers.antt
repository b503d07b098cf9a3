use Rattle.std.proofs.Common.{◌++◌, ap, ◌∙◌}
use Rattle.diagram.proofs.Common.{codes, class_of, key_name}
use Rattle.diagram.proofs.Joined.{joined_three}
use Rattle.diagram.proofs.frame.put_key_name.Goals as goal

pub returns : goal.returns
unfolding key_name
returns c =
    joined_three c.put_text-3.result _ _ _ _ (codes "<text x='10' y='12'>") (class_of c.args.phase) (codes "</text>") c.in_ok-put_text.ensures (c.in_ok-put_text-2.ensures ∙ ap (λ t. c.put_text.new.out.items ++ t) c.class_of.ensures) c.put_text-3.ensures
