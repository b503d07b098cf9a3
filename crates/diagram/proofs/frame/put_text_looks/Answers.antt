use Rattle.diagram.proofs.Common.{text_looks}
use Rattle.diagram.proofs.Joined.{joined}
use Rattle.diagram.proofs.frame.put_text_looks.Goals as goal

pub returns : goal.returns
unfolding text_looks
returns c =
    joined c.put_text-2.result _ _ _ _ _ c.in_ok-put_text.ensures c.put_text-2.ensures
