use Rattle.judge.proofs.Exclusion.{entry-one}
use Rattle.judge.proofs.laws.exclusion_of_one_is_mutual_exclusion.Goals as goal

pub returns : goal.returns
returns c = entry-one
