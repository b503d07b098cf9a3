use Rattle.std.proofs.Common.{refl}
use Rattle.rme_c.proofs.Arms.{value_on, value_end}
use Rattle.rme_c.proofs.steps.read_on.Goals as goal

pub returns-then-read-p-clause-step : goal.returns-then-read-p-clause-step
returns-then-read-p-clause-step c =
    value_on c.args.p.now c.requires.eight _ c.args.at c.args.seq c.args.read c.args.value c.on.result c.requires.fits c.if-read-p.true refl c.on.ensures

pub returns-clause-step : goal.returns-clause-step
returns-clause-step c =
    value_end c.args.p.now c.requires.eight _ c.args.at c.args.seq c.args.read c.args.value c.on-2.result c.requires.fits c.if-read-p.false refl c.on-2.ensures
