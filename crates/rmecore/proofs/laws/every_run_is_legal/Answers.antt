use Rattle.rmecore.proofs.Common.{nobody, at_rest}
use Rattle.rmecore.proofs.Runs.{legal, at_first}
use Rattle.rmecore.proofs.laws.every_run_is_legal.Goals as goal

pub returns : goal.returns
returns c = λ n limit events run. legal n limit at_rest nobody events (at_first n) run
