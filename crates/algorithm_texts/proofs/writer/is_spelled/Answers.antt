use Rattle.std.proofs.Common.{◌≡◌, ◌⊎◌, inl, inr}
use Rattle.algorithm_texts.proofs.writer.is_spelled.Goals as goal

pub returns-in-Err-At : goal.returns-in-Err-At
returns-in-Err-At c = (
  (λ h. absurd (cc)),
  (λ s. absurd (elim c.in-Err-At.ensures.refuses [ inl e ↦ absurd (cc) | inr none ↦ none (c.args.algorithm.now, s) ])),
)
