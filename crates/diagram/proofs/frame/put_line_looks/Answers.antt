use Rattle.diagram.proofs.Common.{line_looks}
use Rattle.diagram.proofs.Joined.{joined}
use Rattle.diagram.proofs.frame.put_line_looks.Goals as goal

pub returns : goal.returns
unfolding line_looks
returns c =
    joined c.put_text-2.result _ _ _ _ _ c.in_ok-put_text.ensures c.put_text-2.ensures
