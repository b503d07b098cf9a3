use Rattle.crashlab.specs.minimization.MadeOf.{moves_by}
use Rattle.crashlab.proofs.minimization.MadeOf.{sub_skip}
use Rattle.crashlab.proofs.minimization.made_of.steps_for.Goals as goal

pub returns-in_default : goal.returns-in_default
returns-in_default c = λ xs ys h. sub_skip xs (moves_by c.args.p c.args.line.now) ys h
