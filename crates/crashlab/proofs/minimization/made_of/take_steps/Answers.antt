use Rattle.std.proofs.Common.{◌≡◌, ◌∷◌, ◌++◌, sym, subst, arith}
use Rattle.crashlab.specs.minimization.MadeOf.{IsSubsequence, steps_by, moves_left}
use Rattle.crashlab.proofs.minimization.MadeOf.{taken_all, taken_some}
use Rattle.crashlab.proofs.minimization.made_of.take_steps.Goals as goal

pub loop-steps-preserved : goal.loop-steps-preserved
loop-steps-preserved c = λ xs h.
    let parts : c.loop-steps.lines.now ≡ c.in_ok-first.first.now ∷ c.in_ok-first.rest.now = c.in_ok-first.ensures.cases.0 in
    c.loop-steps.invariant xs (subst (λ ls. IsSubsequence (steps_by c.args.p c.loop-steps.wanted ++ xs) (moves_left c.args.p c.loop-steps.steps ls)) (sym parts)
    (taken_all c.args.p c.loop-steps.steps c.loop-steps.wanted c.steps_for-steps.result xs c.in_ok-first.first.now c.in_ok-first.rest.now c.loop-steps-test.true c.steps_for-steps.ensures h))

pub returns : goal.returns
returns c = λ xs h. c.loop-steps.invariant xs (taken_some c.args.p c.loop-steps.steps c.loop-steps.wanted xs c.loop-steps.lines.now (omega (arith, c.loop-steps-test.false)) h)
