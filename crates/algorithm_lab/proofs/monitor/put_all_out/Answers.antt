use Rattle.std.proofs.Common.{◌∙◌, ap, slice_set, rules, arith}
use Rattle.std.proofs.lemmas.Grind.{common_steps}
use Rattle.rmecore.specs.declared.phase.Phase.TheVariants.{Out}
use Rattle.algorithms.proofs.Worlds.{set_next}
use Rattle.algorithm_lab.proofs.monitor.put_all_out.Goals as goal

pub loop-p-preserved : goal.loop-p-preserved
loop-p-preserved c =
    ap (λ ps. slice_set ps c.loop-p.p Out) c.loop-p.invariant
    ∙ set_next c.loop-p.p Out c.args.phases.now (first_of (omega (arith, c.loop-p-test.true), search rules, grind (arith, common_steps)))
