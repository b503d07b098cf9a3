use Rattle.rme_c.proofs.Arms.{store_on, store_end}
use Rattle.rme_c.proofs.steps.after_store.Goals as goal

pub returns-then-after_it-p-clause-step : goal.returns-then-after_it-p-clause-step
returns-then-after_it-p-clause-step c = store_on c.args.p.now c.requires.eight c.args.at c.args.seq c.args.step c.args.value c.on.result c.requires.fits c.if-after_it-p.true c.on.ensures

pub returns-clause-step : goal.returns-clause-step
returns-clause-step c = store_end c.args.p.now c.requires.eight c.args.at c.args.seq c.args.step c.args.value c.after_reply.result c.requires.fits c.if-after_it-p.false c.after_reply.ensures
