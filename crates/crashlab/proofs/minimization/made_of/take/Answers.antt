use Rattle.std.proofs.Common.{◌++◌}
use Rattle.crashlab.specs.minimization.MadeOf.{steps_by, moves_by, moves_of}
use Rattle.crashlab.proofs.minimization.MadeOf.{sub_skip}
use Rattle.crashlab.proofs.minimization.made_of.take.Goals as goal

pub returns : goal.returns
returns c = λ xs h. sub_skip (moves_by c.args.p c.args.wanted.now ++ xs) (steps_by c.args.p c.args.steps) (moves_of c.args.p c.args.lines.now) (c.in_ok-rest.ensures xs h)
