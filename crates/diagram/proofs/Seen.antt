-- Steps that are written one after another, with what they show of each process.
use Rattle.std.proofs.Common.{◌≡◌, ℕ, suc, ◌+◌, true, false, List, ◌∷◌, ◌++◌, Some, None, refl, ap, ◌∙◌, append_assoc}
use Rattle.redomail.specs.declared.layout.Layout.{Layout}
use Rattle.schedule.specs.Fragments.{itself, steps}
use Rattle.schedule.specs.Transitions.{StepsFrom, Transitions}
use Rattle.diagram.proofs.Common.{DiagramEvent, run_text, row_of, row_text}
use Rattle.diagram.specs.LastSteps.{LastStepsState, last_steps_with}
use Rattle.diagram.specs.Semantics.{state_after_steps, steps_to_answer}

-- ---- events

-- one event is written, and the others are left
pub seen_event : (l : Layout) (last_steps : LastStepsState) (e : DiagramEvent) (rest : List DiagramEvent) (old mid : List ℕ)
    → mid ≡ old ++ row_text l (last_steps_with last_steps (row_of e)).phases None (row_of e)
    → mid ++ run_text l (last_steps_with last_steps (row_of e)).phases rest ≡ old ++ run_text l last_steps.phases (e ∷ rest)
seen_event l last_steps e rest old mid is =
    ap (λ (t : List ℕ). t ++ run_text l (last_steps_with last_steps (row_of e)).phases rest) is
    ∙ append_assoc old (row_text l (last_steps_with last_steps (row_of e)).phases None (row_of e)) (run_text l (last_steps_with last_steps (row_of e)).phases rest)

-- ---- until a call is answered

module _ {S T C R : Type 0} (m : Transitions S T C R) (p n : ℕ) (first : S) where
  -- what is still to come after k steps, and what it leaves
  pub record StepsOn (k left : ℕ) (s : S) : Type 0 where
    pub number : steps_to_answer m p k left s ≡ steps_to_answer m p 0 n first
    pub left_is : (steps m itself p left s).1 ≡ state_after_steps m p n first

  pub way_begins : (left : ℕ) → left ≡ n → StepsOn 0 left first
  unfolding state_after_steps
  way_begins left all = rw all record { number = refl; left_is = refl }

  pub way_none : (k left : ℕ) (s : S) → StepsOn k left s → left ≡ 0 → (None ≡ steps_to_answer m p 0 n first) × (s ≡ state_after_steps m p n first)
  unfolding steps_to_answer
  way_none k left s on none = (rw none at on.number, rw none at on.left_is)

  pub way_refused : (k left more : ℕ) (s : S) (e : R) → StepsOn k left s → left ≡ suc more → m.step_refusal s p ≡ Some e → (Some (k + 1) ≡ steps_to_answer m p 0 n first) × (s ≡ state_after_steps m p n first)
  unfolding steps_to_answer
  way_refused k left more s e on count refused = (rw (count, refused) at on.number, rw (count, refused) at on.left_is)

  pub way_answered : (k left more : ℕ) (s t : S) (step : T) → StepsOn k left s → left ≡ suc more → StepsFrom m s p step t → m.ends step ≡ true
      → (Some (k + 1) ≡ steps_to_answer m p 0 n first) × (t ≡ state_after_steps m p n first)
  unfolding steps_to_answer
  way_answered k left more s t step on count taken ended =
      let ends : m.ends (m.step s p) ≡ true = rw (← taken.1) ended in
      (rw (count, taken.0, ends) at on.number, rw taken.2 (rw (count, taken.0, ends) at on.left_is))

  pub way_goes_on : (k left more : ℕ) (s t : S) (step : T) → StepsOn k left s → left ≡ suc more → StepsFrom m s p step t → m.ends step ≡ false → StepsOn (k + 1) more t
  unfolding steps_to_answer
  way_goes_on k left more s t step on count taken going =
      let goes : m.ends (m.step s p) ≡ false = rw (← taken.1) going in
      rw taken.2 record { number = rw (count, taken.0, goes) at on.number; left_is = rw (count, taken.0, goes) at on.left_is }
