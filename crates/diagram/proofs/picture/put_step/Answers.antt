use Rattle.diagram.proofs.Common.{codes, step_mark}
use Rattle.diagram.proofs.Joined.{joined_three}
use Rattle.diagram.proofs.picture.put_step.Goals as goal

pub returns : goal.returns
unfolding step_mark
returns c =
    joined_three c.put_text-2.result _ _ _ _ _ _ (codes "</text>") c.in_ok-put_around.ensures c.in_ok-put_text.ensures c.put_text-2.ensures
