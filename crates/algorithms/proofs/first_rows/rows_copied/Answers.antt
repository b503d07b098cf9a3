use Rattle.std.proofs.Common.{ℕ, List, ◌++◌, ◌∷◌, [], ◌∙◌, ap, slice_get}
use Rattle.algorithms.specs.FirstWords.{row_or_zeros, values_to}
use Rattle.algorithms.proofs.FirstWords.{values_more}
use Rattle.algorithms.proofs.first_rows.rows_copied.Goals as goal

pub loop-place-preserved : goal.loop-place-preserved
loop-place-preserved c =
    let row : ℕ → List ℕ = λ k. row_or_zeros (slice_get c.args.rows.now k) in
    c.in_ok-push.ensures.items
    ∙ ap (λ xs. xs ++ c.row_or_zeros.result ∷ []) c.loop-place.invariant
    ∙ ap (λ r. values_to row c.loop-place.place ++ r ∷ []) c.row_or_zeros.ensures
    ∙ values_more row c.loop-place.place
