use Rattle.std.proofs.Common.{ℕ, List, ◌++◌, ◌∙◌, ap, drop, slice_get, slice_set, rules, arith}
use Rattle.std.proofs.lemmas.Grind.{common_steps}
use Rattle.algorithms.specs.FirstWords.{row_or_zeros, values_to}
use Rattle.algorithms.proofs.FirstWords.{set_values}
use Rattle.algorithms.proofs.first_rows.put_first_rows.Goals as goal

pub loop-place-preserved : goal.loop-place-preserved
loop-place-preserved c =
    let row : ℕ → List ℕ = λ k. row_or_zeros (slice_get c.args.rows.now k) in
    ap (λ rs. slice_set rs c.loop-place.place c.row_or_zeros.result) c.loop-place.invariant
    ∙ ap (λ r. slice_set (values_to row c.loop-place.place ++ drop c.loop-place.place c.args.words.now) c.loop-place.place r) c.row_or_zeros.ensures
    ∙ set_values row c.loop-place.place c.args.words.now (first_of (omega (arith, c.loop-place-test.true), search rules, grind (arith, common_steps)))
