-- Lines that a schedule which goes wrong can't lose.
use Rattle.std.proofs.Common.{◌≡◌, ℕ, [], ◌∷◌, Option, Some, None, Result, Ok, Err, IfOk, MatchOption, ◌∙◌, subst}
use Rattle.schedule.specs.declared.lines.line.Line.{Line}
use Rattle.schedule.specs.declared.replays.verdict.Verdict.TheVariants.{Fine, Against}
use Rattle.schedule.specs.Schedules.{Scheduled}
use Rattle.crashlab.specs.declared.variants.variant.Variant.{Variant}
use Rattle.crashlab.specs.minimization.Least.{IsSmaller, IsLowered, IsNeeded, Loses, with_lines_at}
use Rattle.crashlab.specs.minimization.Shrunk.{PlayAnswers, GoesWrong}
use Rattle.crashlab.proofs.minimization.Sizes.{one_lowered}

pub not_fine : (variant : Variant) (number : ℕ) (schedule : Scheduled) → PlayAnswers variant schedule (Ok Fine) → Loses (GoesWrong variant number) schedule
not_fine variant number schedule answers wrong =
    let both : Fine ≡ Against wrong.at wrong.fault = answers.1 ∙ wrong.verdict in
    cc

module _ (Wrong : Scheduled → Type 0) (schedule : Scheduled) where
  -- its count can't be lowered at all
  pub needed_whole : (i : ℕ) → Loses Wrong (with_lines_at i [] schedule) → ((less : Line) → IsLowered schedule.lines i less → ⊥) → IsNeeded Wrong schedule i
  needed_whole i loses none = record { line = loses; count = λ less low. absurd (none less low) }

  -- its count was tried lowered
  pub needed_after : {E : Type 0} (i : ℕ) (line : Line) (r : Result (Option Scheduled) E) → Loses Wrong (with_lines_at i [] schedule) → IsLowered schedule.lines i line
      → IfOk r (λ found. MatchOption found (Loses Wrong (with_lines_at i (line ∷ []) schedule)) (IsSmaller Wrong schedule))
      → IfOk r (λ found. MatchOption found (IsNeeded Wrong schedule i) (IsSmaller Wrong schedule))
  needed_after i line (Ok None) loses low tried =
      record { line = loses; count = λ less other. subst (λ l. Loses Wrong (with_lines_at i (l ∷ []) schedule)) (one_lowered schedule.lines i line less low other) tried }
  needed_after i line (Ok (Some found)) loses low tried = tried
  needed_after i line (Err e) loses low tried = tt
