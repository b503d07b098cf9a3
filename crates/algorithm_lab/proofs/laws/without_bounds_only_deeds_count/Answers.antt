use Rattle.algorithm_lab.proofs.NoExcess.{judged_by_deeds}
use Rattle.algorithm_lab.proofs.laws.without_bounds_only_deeds_count.Goals as goal

pub returns : goal.returns
returns c = λ a n limit lines none unclaimed. judged_by_deeds a n limit lines none unclaimed
