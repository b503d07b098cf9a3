use Rattle.diagram.proofs.Joined.{joined_three}
use Rattle.diagram.proofs.frame.put_last_line.Goals as goal

pub returns : goal.returns
returns c =
    joined_three c.put_text.result _ _ _ _ _ _ _ c.in_ok-put_around.ensures c.in_ok-put_last.ensures c.put_text.ensures
