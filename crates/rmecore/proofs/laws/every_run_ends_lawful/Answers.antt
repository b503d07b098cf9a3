use Rattle.rmecore.proofs.Common.{nobody, at_rest}
use Rattle.rmecore.proofs.Runs.{at_first}
use Rattle.rmecore.proofs.Bounds.{final_lawful, rest_bounded, rest_rows}
use Rattle.rmecore.proofs.laws.every_run_ends_lawful.Goals as goal

pub returns : goal.returns
returns c = λ n limit events run. final_lawful limit n at_rest nobody events (at_first n) (rest_bounded limit) (λ p past. rest_rows limit) run
