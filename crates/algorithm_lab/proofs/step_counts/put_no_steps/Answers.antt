use Rattle.std.proofs.Common.{◌∙◌, ap, slice_set, rules, arith}
use Rattle.std.proofs.lemmas.Grind.{common_steps}
use Rattle.algorithms.proofs.Worlds.{set_next}
use Rattle.algorithm_lab.proofs.step_counts.put_no_steps.Goals as goal

pub loop-p-preserved : goal.loop-p-preserved
loop-p-preserved c =
    ap (λ ps. slice_set ps c.loop-p.p 0) c.loop-p.invariant
    ∙ set_next c.loop-p.p 0 c.args.steps.now (first_of (omega (arith, c.loop-p-test.true), search rules, grind (arith, common_steps)))
