-- The length of a changed schedule.
use Rattle.std.proofs.Common.{◌≡◌, ℕ, zero, suc, ◌+◌, ◌<◌, List, [], ◌∷◌, ◌++◌, take, drop, length, get_or, Some, refl, sym, ap, ◌∙◌, arith, add-one, length-append, length-drop}
use Rattle.std.specs.List.{slice_get}
use Rattle.std.proofs.lemmas.List.{length-take}
use Rattle.std.proofs.lemmas.Option.{slice_get_within, slice_get-get_or}
use Rattle.schedule.specs.declared.lines.line.Line.{Line}
use Rattle.schedule.specs.declared.lines.line.Line.TheVariants.{Step, Crash}
use Rattle.schedule.specs.Schedules.{Scheduled}
use Rattle.crashlab.specs.minimization.Least.{steps_of, steps_asked, with_lines_at, IsLowered, IsShorter}
use Rattle.crashlab.proofs.minimization.MadeOf.{made_without, made_lowered}

steps_append : (xs ys : List Line) → steps_asked (xs ++ ys) ≡ steps_asked xs + steps_asked ys
steps_append [] ys = omega arith
steps_append (x ∷ xs) ys = omega (arith, steps_append xs ys)

-- the steps of the lines before one, of that one, and of those after it
steps_at : (i : ℕ) (lines : List Line) (line : Line) → slice_get lines i ≡ Some line → steps_asked (take i lines) + (steps_of line + steps_asked (drop (suc i) lines)) ≡ steps_asked lines
steps_at i [] line e = absurd (cc)
steps_at zero (l ∷ ls) line e =
    let same : l ≡ line = cc in
    omega (arith, ap steps_of same)
steps_at (suc i) (l ∷ ls) line e = omega (arith, steps_at i ls line e)

module _ (i : ℕ) (lines new : List Line) (line : Line) (is : slice_get lines i ≡ Some line) where
  steps_one : steps_asked (take i lines ++ (new ++ drop (i + 1) lines)) + steps_of line ≡ steps_asked lines + steps_asked new
  steps_one =
      rw (add-one i)
      (omega (arith, steps_append (take i lines) (new ++ drop (suc i) lines), steps_append new (drop (suc i) lines), steps_at i lines line is))

  length_one : length (take i lines ++ (new ++ drop (i + 1) lines)) + 1 ≡ length lines + length new
  length_one =
      let within = slice_get_within lines i line is in
      simp (length-append, length-take, length-drop) (omega (arith, within))

-- a line left out
pub without_line : (schedule : Scheduled) (i : ℕ) → i < length schedule.lines → IsShorter schedule (with_lines_at i [] schedule)
without_line schedule i within =
    let is = slice_get-get_or schedule.lines i (Crash 0) within in
    let fewer = length_one i schedule.lines [] (get_or schedule.lines i (Crash 0)) is in
    let steps = steps_one i schedule.lines [] (get_or schedule.lines i (Crash 0)) is in
    record {
      no_longer = record { head = refl; lines = omega (arith, fewer); steps = omega (arith, steps) };
      made = made_without schedule i within;
      smaller = omega (arith, fewer, steps);
    }

-- a count lowered by one
pub with_lowered : (schedule : Scheduled) (i : ℕ) (less : Line) → IsLowered schedule.lines i less → IsShorter schedule (with_lines_at i (less ∷ []) schedule)
with_lowered schedule i less low =
    let fewer = length_one i schedule.lines (less ∷ []) (Step low.process (low.count + 1)) low.was in
    let steps = steps_one i schedule.lines (less ∷ []) (Step low.process (low.count + 1)) low.was in
    let left : steps_of less ≡ low.count = ap steps_of low.is in
    record {
      no_longer = record { head = refl; lines = omega (arith, fewer); steps = omega (arith, steps, left) };
      made = made_lowered schedule i less low;
      smaller = omega (arith, fewer, steps, left);
    }

-- there is at most one such line
pub one_lowered : (lines : List Line) (i : ℕ) (less other : Line) → IsLowered lines i less → IsLowered lines i other → less ≡ other
one_lowered lines i less other a b =
    let same : Some (Step a.process (a.count + 1)) ≡ Some (Step b.process (b.count + 1)) = sym a.was ∙ b.was in
    let process : a.process ≡ b.process = cc in
    let counts : a.count + 1 ≡ b.count + 1 = cc in
    let count : a.count ≡ b.count = omega arith in
    a.is ∙ (λ k. Step (process k) (count k)) ∙ sym b.is
