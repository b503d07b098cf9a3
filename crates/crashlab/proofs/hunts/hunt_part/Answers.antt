use Rattle.std.proofs.Common.{◌*◌, is_some, sym, ap, ◌∙◌, arith}
use Rattle.rand_pcg.specs.Lcg.{advance}
use Rattle.rand_pcg.specs.Pcg.{multiplier_64}
use Rattle.crashlab.proofs.hunts.Drawn.{rounds_first, round_found, round_none, rounds_none}
use Rattle.crashlab.proofs.hunts.hunt_part.Goals as goal

pub loop-init : goal.loop-init
loop-init c = rounds_first (c.advance.ensures ∙ ap (advance 64 multiplier_64 (c.args.first * c.args.asked.steps)) c.seed_from_u64-generator.ensures)

pub loop-preserved : goal.loop-preserved
loop-preserved c = round_none c.loop.invariant c.loop-test.true (sym c.in_default.is ∙ c.in_ok-found.ensures.exact) (c.in_ok-found.ensures.on (ap is_some c.in_default.is))

pub returns-in-Some-clause-exact : goal.returns-in-Some-clause-exact
returns-in-Some-clause-exact c = round_found c.loop.invariant c.loop-test.true (sym c.in-Some.is ∙ c.in_ok-found.ensures.exact)

pub returns-clause-exact : goal.returns-clause-exact
returns-clause-exact c = rounds_none c.loop.invariant (omega (arith, c.loop-test.false, c.loop.auto.counter-end))
