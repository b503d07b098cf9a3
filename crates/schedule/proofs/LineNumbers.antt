-- The lines that a run plays, by their numbers.
use Rattle.std.proofs.Common.{◌≡◌, ℕ, zero, suc, ◌+◌, ◌-◌, ◌≤◌, is_some, true, List, [], ◌∷◌, take, Option, Some, None, IfSome, refl, ap, arith}
use Rattle.schedule.proofs.ReplaysCommon.{Refusal, Line, Start, Step, Crash, CrashAll, Part, Did, Behaviour, unless, part_after_line, steps, line_on, run_on}
use Rattle.schedule.specs.Executions.{lines_played}

-- a line before the refused one is played
pub one_more_line : (k : ℕ) (o : Option (ℕ × Refusal)) (line : Line) (lines : List Line) → IfSome o (λ refused. k + 1 ≤ refused.0) → lines_played k o (line ∷ lines) ≡ line ∷ lines_played (k + 1) o lines
one_more_line k None line lines later = refl
one_more_line k (Some refused) line lines later =
    let one : refused.0 - k ≡ suc (refused.0 - (k + 1)) = omega (arith, later) in
    ap (λ n. take n (line ∷ lines)) one

module _ {S : Type 0} (b : Behaviour S) where
  -- a line that is refused reports nothing and leaves the state as it was
  pub line_stops : (s : S) (line : Line) (refusal : Refusal) → (line_on b s line).refused ≡ Some refusal → ((line_on b s line).left ≡ s) × ((line_on b s line).reports ≡ [])
  unfolding line_on steps
  line_stops s (Start p call) refusal stops = by (b.start_refusal s p call) stops
    where
      by : (o : Option Refusal) → (unless o s [] (b.started s p call)).refused ≡ Some refusal → ((unless o s [] (b.started s p call)).left ≡ s) × ((unless o s [] (b.started s p call)).reports ≡ [])
      by None stops = absurd (cc)
      by (Some refused) stops = (refl, refl)
  line_stops s (Step p zero) refusal stops = (refl, refl)
  line_stops s (Step p (suc n)) refusal stops = let is : is_some (b.advance_refusal s p) ≡ true = ap is_some stops in rw is (refl, refl)
  line_stops s (Crash p) refusal stops = by (b.crash_refusal s p) stops
    where
      by : (o : Option Refusal) → (unless o s (Did (b.crash_deed s p) ∷ []) (b.crashed s p)).refused ≡ Some refusal
          → ((unless o s (Did (b.crash_deed s p) ∷ []) (b.crashed s p)).left ≡ s) × ((unless o s (Did (b.crash_deed s p) ∷ []) (b.crashed s p)).reports ≡ [])
      by None stops = absurd (cc)
      by (Some refused) stops = (refl, refl)
  line_stops s CrashAll refusal stops = absurd (cc)

  -- the refused line is none before the first
  pub numbers_rise : (k : ℕ) (s : S) (lines : List Line) → IfSome (run_on b k s lines).refused (λ refused. k ≤ refused.0)
  unfolding run_on
  numbers_rise k s [] = tt
  numbers_rise k s (line ∷ lines) = by (line_on b s line).refused (run_on b (k + 1) (line_on b s line).left lines) (numbers_rise (k + 1) (line_on b s line).left lines)
    where
      later : (o : Option (ℕ × Refusal)) → IfSome o (λ refused. k + 1 ≤ refused.0) → IfSome o (λ refused. k ≤ refused.0)
      later None is = tt
      later (Some refused) is = omega (arith, is)

      by : (o : Option Refusal) (rest : Part S (ℕ × Refusal)) → IfSome rest.refused (λ refused. k + 1 ≤ refused.0) → IfSome (part_after_line k (line_on b s line) o rest).refused (λ refused. k ≤ refused.0)
      by None rest rises = later rest.refused rises
      by (Some refusal) rest rises = omega arith
