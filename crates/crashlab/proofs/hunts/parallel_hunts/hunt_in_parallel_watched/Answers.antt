use Rattle.std.proofs.Common.{◌≡◌, ◌+◌, ◌-◌, refl, sym, ap, ◌∙◌, arith}
use Rattle.crashlab.specs.hunts.Hunted.{found_from}
use Rattle.crashlab.proofs.hunts.Drawn.{no_round}
use Rattle.crashlab.proofs.hunts.Shares.{shared_found, shared_none}
use Rattle.crashlab.proofs.hunts.parallel_hunts.hunt_in_parallel_watched.Goals as goal

pub loop-first-preserved : goal.loop-first-preserved
loop-first-preserved g c =
    let left : c.args.rounds - c.loop-first.first - c.batch_of-batch.result ≡ c.args.rounds - (c.loop-first.first + c.batch_of-batch.result) = omega arith in
    record {
      rest = c.loop-first.invariant.rest ∙ sym (shared_none c.args.variant c.args.asked c.loop-first.first c.batch_of-batch.result (c.args.rounds - c.loop-first.first) c.batch_of-batch.ensures.left (sym c.in_default.is ∙ c.in_ok-found.ensures.exact) refl)
          ∙ ap (found_from c.args.variant c.args.asked (c.loop-first.first + c.batch_of-batch.result)) left;
      within = omega (arith, c.loop-first.invariant.within, c.batch_of-batch.ensures.left);
    }

pub returns-in-Some-clause-exact : goal.returns-in-Some-clause-exact
returns-in-Some-clause-exact g c = shared_found c.args.variant c.args.asked c.loop-first.first c.batch_of-batch.result (c.args.rounds - c.loop-first.first) c.batch_of-batch.ensures.left (sym c.in-Some.is ∙ c.in_ok-found.ensures.exact) ∙ sym c.loop-first.invariant.rest

pub returns-clause-exact : goal.returns-clause-exact
returns-clause-exact g c =
    let none : c.args.rounds - c.loop-first.first ≡ 0 = omega (arith, c.loop-first-test.false) in
    sym (c.loop-first.invariant.rest ∙ ap (found_from c.args.variant c.args.asked c.loop-first.first) none ∙ no_round c.args.variant c.args.asked c.loop-first.first)
