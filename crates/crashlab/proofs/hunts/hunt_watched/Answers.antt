use Rattle.std.proofs.Common.{is_some, sym, ap, ◌∙◌, arith}
use Rattle.crashlab.proofs.hunts.Drawn.{at_start, rounds_first, round_found, round_none, rounds_none}
use Rattle.crashlab.proofs.hunts.hunt_watched.Goals as goal

pub loop-round-init : goal.loop-round-init
loop-round-init g c = rounds_first (c.seed_from_u64-generator.ensures ∙ at_start c.args.asked.seed c.args.asked.steps)

pub loop-round-preserved : goal.loop-round-preserved
loop-round-preserved g c = round_none c.loop-round.invariant c.loop-round-test.true (sym c.in_default.is ∙ c.in_ok-found.ensures.exact) (c.in_ok-found.ensures.on (ap is_some c.in_default.is))

pub returns-in-Some-clause-exact : goal.returns-in-Some-clause-exact
returns-in-Some-clause-exact g c = round_found c.loop-round.invariant c.loop-round-test.true (sym c.in-Some.is ∙ c.in_ok-found.ensures.exact)

pub returns-clause-exact : goal.returns-clause-exact
returns-clause-exact g c = rounds_none c.loop-round.invariant (omega (arith, c.loop-round-test.false, c.loop-round.auto.round-end))
