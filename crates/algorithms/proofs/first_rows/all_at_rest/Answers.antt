use Rattle.std.proofs.Common.{◌++◌, ◌∷◌, [], ◌∙◌, ap}
use Rattle.std.proofs.lemmas.List.{replicate_more}
use Rattle.algorithms.specs.Worlds.{resting}
use Rattle.algorithms.proofs.first_rows.all_at_rest.Goals as goal

pub loop-process-preserved : goal.loop-process-preserved
loop-process-preserved c =
    c.in_ok-push.ensures.items
    ∙ ap (λ xs. xs ++ resting ∷ []) c.loop-process.invariant
    ∙ replicate_more c.loop-process.process resting
