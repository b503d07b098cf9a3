use Rattle.std.proofs.Common.{refl}
use Rattle.rme_c.proofs.Arms.{redo_on, redo_end}
use Rattle.rme_c.proofs.steps.after_redo.Goals as goal

pub returns-then-step-p-clause-step : goal.returns-then-step-p-clause-step
returns-then-step-p-clause-step c = redo_on c.args.p.now c.requires.eight c.args.at c.args.seq c.args.step c.args.value c.on.result c.requires.fits c.if-step-p.true c.on.ensures

pub returns-clause-step : goal.returns-clause-step
returns-clause-step c =
    redo_end c.args.p.now c.requires.eight _ c.args.at c.args.seq c.args.step c.args.value c.after_reply.result c.requires.fits c.if-step-p.false refl c.after_reply.ensures
