use Rattle.diagram.proofs.Common.{codes, measured}
use Rattle.diagram.proofs.Joined.{joined_around}
use Rattle.diagram.proofs.frame.put_measures.Goals as goal

pub returns : goal.returns
unfolding measured
returns c =
    joined_around c.put_around-2.result _ _ _ (codes "<svg xmlns='http://www.w3.org/2000/svg' width='") (codes "' height='") (codes "'") c.args.wide c.args.high c.in_ok-put_around.ensures c.put_around-2.ensures
