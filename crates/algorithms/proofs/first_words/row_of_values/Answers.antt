use Rattle.std.proofs.Common.{ℕ, ◌++◌, ◌∙◌, ap, drop, replicate, slice_set, rules, arith}
use Rattle.std.proofs.lemmas.Grind.{common_steps}
use Rattle.algorithms.specs.Extents.{or_zero}
use Rattle.algorithms.specs.FirstWords.{values_to, first_value}
use Rattle.algorithms.proofs.FirstWords.{set_values}
use Rattle.algorithms.proofs.first_words.row_of_values.Goals as goal

pub loop-index-preserved : goal.loop-index-preserved
loop-index-preserved c =
    let value : ℕ → ℕ = λ i. or_zero (first_value c.args.procs c.args.limit c.args.declaration.now c.args.value.now i) in
    ap (λ rs. slice_set rs c.loop-index.index c.or_zero.result) c.loop-index.invariant
    ∙ ap (λ v. slice_set (values_to value c.loop-index.index ++ drop c.loop-index.index (replicate 64 0)) c.loop-index.index v) (c.or_zero.ensures ∙ ap or_zero c.first_value.ensures)
    ∙ set_values value c.loop-index.index (replicate 64 0) (first_of (omega (arith, c.loop-index-test.true, c.declaration_size-index-end.ensures.few), search rules, grind (arith, common_steps)))
