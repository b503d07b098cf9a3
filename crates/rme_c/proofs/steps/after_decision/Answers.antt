use Rattle.std.proofs.Common.{sym, ◌∙◌}
use Rattle.rme_c.proofs.Arms.{decided_early, decided_stores}
use Rattle.rme_c.proofs.steps.after_decision.Goals as goal

pub returns-in-Some-clause-step : goal.returns-in-Some-clause-step
returns-in-Some-clause-step c =
    decided_early c.args.p.now c.args.seq c.args.closed c.args.count c.args.last c.in-Some.reply c.after_reply.result c.requires (sym c.early_reply.ensures ∙ c.in-Some.is) c.after_reply.ensures

pub returns-in-None-clause-step : goal.returns-in-None-clause-step
returns-in-None-clause-step c =
    decided_stores c.args.p.now c.args.seq c.args.closed c.args.count c.args.last c.on.result c.requires (sym c.early_reply.ensures ∙ c.in-None.is) c.on.ensures
