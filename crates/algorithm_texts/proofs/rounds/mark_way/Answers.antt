use Rattle.std.proofs.Common.{◌≡◌, ℕ, ◌<◌, true, false, eqb, [], length, sym, ap, ◌∙◌, subst, inl, inr}
use Rattle.std.proofs.lemmas.Bool.{false≢true, eq-eqb}
use Rattle.std.proofs.lemmas.List.{length-set}
use Rattle.algorithm_texts.specs.FinishedDrafts.{is_in}
use Rattle.algorithm_texts.specs.Marks.{and_then}
use Rattle.algorithm_texts.specs.Runs.{leads_to}
use Rattle.algorithm_texts.proofs.RunMarks.{marked_set, or_left, set_keeps}
use Rattle.algorithm_texts.proofs.RoundMarks.{one_marked}
use Rattle.algorithm_texts.proofs.rounds.mark_way.Goals as goal

pub returns-in-Some-clause-size : goal.returns-in-Some-clause-size
returns-in-Some-clause-size c = ap length c.mark.ensures ∙ length-set c.args.marks.now c.in-Some.place true

pub returns-in-Some-clause-kept : goal.returns-in-Some-clause-kept
returns-in-Some-clause-kept c = λ at h. subst (λ ms. is_in ms at ≡ true) (sym c.mark.ensures) (set_keeps c.args.marks.now c.in-Some.place at h)

pub returns-in-Some-clause-marked : goal.returns-in-Some-clause-marked
returns-in-Some-clause-marked c = λ place leads l.
    subst (λ ms. is_in ms place ≡ true) (sym c.mark.ensures)
    (one_marked c.args.marks.now c.args.way c.in-Some.place place c.in-Some.is leads (subst (λ (n : ℕ). place < n) (ap length c.mark.ensures ∙ length-set c.args.marks.now c.in-Some.place true) l))

pub returns-in_default-clause-marked : goal.returns-in_default-clause-marked
returns-in_default-clause-marked c = λ place leads. absurd (false≢true (subst (λ o. leads_to (and_then o []) place ≡ true) c.in_default.is leads))

pub returns-in-Some-clause-comes : goal.returns-in-Some-clause-comes
returns-in-Some-clause-comes c = λ place h.
    elim (marked_set c.args.marks.now c.in-Some.place place (subst (λ ms. is_in ms place ≡ true) c.mark.ensures h)) [
      | inl e ↦ inr (subst (λ o. leads_to (and_then o []) place ≡ true) (sym c.in-Some.is) (or_left (eqb c.in-Some.place place) false (eq-eqb c.in-Some.place place (sym e))))
      | inr k ↦ inl k
    ]
