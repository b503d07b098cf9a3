use Rattle.std.proofs.Common.{ℕ, List, ◌++◌, ◌∷◌, [], ◌∙◌, ap, slice_get}
use Rattle.algorithms.specs.FirstWords.{values_to, first_row}
use Rattle.algorithms.proofs.FirstWords.{values_more}
use Rattle.algorithms.proofs.first_words.rows_said.Goals as goal

pub loop-place-preserved : goal.loop-place-preserved
loop-place-preserved c =
    let row : ℕ → List ℕ = λ k. first_row c.args.procs c.args.limit (slice_get c.args.algorithm.now.declarations.items k) (slice_get c.args.values.now.starts.items k) in
    c.in_ok-push.ensures.items
    ∙ ap (λ xs. xs ++ c.first_row.result ∷ []) c.loop-place.invariant
    ∙ ap (λ r. values_to row c.loop-place.place ++ r ∷ []) c.first_row.ensures
    ∙ values_more row c.loop-place.place
