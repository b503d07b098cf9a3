use Rattle.std.proofs.Common.{◌≡◌, ℕ, ◌<◌, ◌≤◌, Option, Some, refl, arith}
use Rattle.algorithms.proofs.CallLines.{BeginsBetween, is_of_another}
use Rattle.algorithms.proofs.deeds.is_line_of.Goals as goal
use Rattle.algorithms.proofs.deeds.is_line_of.Goals.{then-entry-at, else-entry-at, then-is_outside, else-is_outside, then-is_outside-2, else-is_outside-2}

between : (entry at : ℕ) (other : Option ℕ) → (place : ℕ) × (other ≡ Some place) × (entry < place) × (place ≤ at) → BeginsBetween entry at other
between entry at other w = record { place = w.0; is = w.1; after = w.2; before = w.3 }

pub returns-then-is_outside-3-clause-other : goal.returns-then-is_outside-3-clause-other
returns-then-is_outside-3-clause-other c = λ no line.
    is_of_another c.args.entries.now c.args.entry c.args.at 3 _ (omega arith) (λ d. refl) (between _ _ _ (c.is_outside-then-is_outside-3.ensures.within no)) line

pub returns-else-is_outside-3-clause-other : goal.returns-else-is_outside-3-clause-other
returns-else-is_outside-3-clause-other c = λ no line.
    elim c.if-is_outside-2.branch [
      | then-is_outside-2 w ↦ is_of_another c.args.entries.now c.args.entry c.args.at 2 _ (omega arith) (λ d. refl) (between _ _ _ (w.is_outside-then-is_outside-2.ensures.within (cc))) line
      | else-is_outside-2 w ↦ elim c.if-is_outside.branch [
        | then-is_outside v ↦ is_of_another c.args.entries.now c.args.entry c.args.at 1 _ (omega arith) (λ d. refl) (between _ _ _ (v.is_outside-then-is_outside.ensures.within (cc))) line
        | else-is_outside v ↦ elim c.if-entry-at.branch [
          | then-entry-at u ↦ is_of_another c.args.entries.now c.args.entry c.args.at 0 _ (omega arith) (λ d. refl) (between _ _ _ (u.is_outside.ensures.within (cc))) line
          | else-entry-at u ↦ omega (arith, u.if-entry-at, line.from)
        ]
      ]
    ]
