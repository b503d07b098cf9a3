use Rattle.std.proofs.Common.{◌∙◌, ap, slice_set, rules, arith}
use Rattle.std.proofs.lemmas.Grind.{common_steps}
use Rattle.algorithms.specs.Worlds.{resting}
use Rattle.algorithms.proofs.Worlds.{set_next}
use Rattle.algorithms.proofs.first_rows.rest_all.Goals as goal

pub loop-process-preserved : goal.loop-process-preserved
loop-process-preserved c =
    ap (λ ps. slice_set ps c.loop-process.process resting) c.loop-process.invariant
    ∙ set_next c.loop-process.process resting c.args.processes.now (first_of (omega (arith, c.loop-process-test.true), search rules, grind (arith, common_steps)))
